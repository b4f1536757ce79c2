use Rattle.plan_form.specs.PlanRows.{link_row}
use Rattle.plan_form.proofs.Numbering.{Added}
use Rattle.plan_form.proofs.write.add_links.Given as goal

abbrev pub invariant-loop-i : goal.invariant-loop-i
invariant-loop-i l = Added link_row l.links l.initial.rows l.i l.rows

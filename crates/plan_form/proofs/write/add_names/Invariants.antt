use Rattle.plan_form.specs.PlanRows.{node_row}
use Rattle.plan_form.proofs.Numbering.{Added}
use Rattle.plan_form.proofs.write.add_names.Given as goal

abbrev pub invariant-loop-i : goal.invariant-loop-i
invariant-loop-i l = Added node_row l.names l.initial.rows l.i l.rows

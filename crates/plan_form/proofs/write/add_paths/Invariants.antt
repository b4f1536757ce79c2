use Rattle.plan_form.specs.PlanRows.{path_row}
use Rattle.plan_form.proofs.Numbering.{Added}
use Rattle.plan_form.proofs.write.add_paths.Given as goal

abbrev pub invariant-loop-i : goal.invariant-loop-i
invariant-loop-i l = Added path_row l.paths l.initial.rows l.i l.rows

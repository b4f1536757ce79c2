use Rattle.std.proofs.Common.{map}
use Rattle.plan_form.specs.Held.{part_of}
use Rattle.plan_form.specs.PlanRows.{pocket_row}
use Rattle.plan_form.proofs.Numbering.{Added}
use Rattle.plan_form.proofs.write.add_pockets.Given as goal

abbrev pub invariant-loop-i : goal.invariant-loop-i
invariant-loop-i l = Added pocket_row (map part_of l.pockets) l.initial.rows l.i l.rows

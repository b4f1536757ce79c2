use Rattle.std.proofs.Common.{take}
use Rattle.plan_form.specs.Steps.{AreNumbers}
use Rattle.tomo_base.specs.SetLists.{lists_of}
use Rattle.plan_form.proofs.order.number_all.Given as goal

abbrev pub invariant-loop-i : goal.invariant-loop-i
invariant-loop-i l = AreNumbers (take l.i l.pool) (lists_of l.paths) l.numbers.items

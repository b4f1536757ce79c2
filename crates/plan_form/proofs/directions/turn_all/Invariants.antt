use Rattle.std.proofs.Common.{◌≡◌, take, map}
use Rattle.plan_form.specs.Building.{turned}
use Rattle.tomo_base.specs.SetLists.{lists_of}
use Rattle.plan_form.proofs.directions.turn_all.Given as goal

abbrev pub invariant-loop-i : goal.invariant-loop-i
invariant-loop-i l = lists_of l.paths.items ≡ map turned (take l.i l.pool)

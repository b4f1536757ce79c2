use Rattle.std.proofs.Common.{◌≡◌, map, take}
use Rattle.tomo_base.specs.Identify.{sum_along}
use Rattle.drill.proofs.delays.sums_along.Given as goal

abbrev pub invariant-loop-i : goal.invariant-loop-i
invariant-loop-i l = l.sums.items ≡ map (sum_along l.g l.delays) (take l.i l.paths)

use Rattle.std.proofs.Common.{◌≡◌, ℕ, take}
use Rattle.tomo_base.specs.Sets.{has}
use Rattle.mmp_place.specs.Rule.{filled_each}
use Rattle.mmp_place.specs.Steps.{large}
use Rattle.mmp_place.proofs.rule.fill_large.Given as goal

-- the large sets so far are filled
abbrev pub invariant-loop-i : goal.invariant-loop-i
invariant-loop-i l = (v : ℕ) → has l.m v ≡ filled_each l.g (large (take l.i l.sets)) (has l.initial.m) v

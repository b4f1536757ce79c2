use Rattle.std.proofs.Common.{◌≡◌, ℕ, take}
use Rattle.tomo_base.specs.Sets.{has}
use Rattle.mmp_place.specs.Rule.{filled_each}
use Rattle.mmp_place.proofs.filling.fill_each.Given as goal

-- the sets so far are filled
abbrev pub invariant-loop-i : goal.invariant-loop-i
invariant-loop-i l = (v : ℕ) → has l.m v ≡ filled_each l.g (take l.i l.sets) (has l.initial.m) v

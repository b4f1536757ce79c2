use Rattle.std.proofs.Common.{◌≡◌, ℕ, ◌<◌, length, true, false}
use Rattle.tomo_base.specs.Network.{linked}
use Rattle.tomo_base.specs.Sets.{has}
use Rattle.tomo_base.specs.Search.{entry_at}
use Rattle.indep_trees.proofs.counting.all_later.Given as goal

-- the nodes so far have theirs
abbrev pub invariant-loop-v : goal.invariant-loop-v
invariant-loop-v l = (length l.third.items ≡ l.v)
    × ((v : ℕ) → v < l.v → has l.m v ≡ false → (linked l.g v (entry_at l.third.items v) ≡ true) × (entry_at l.ears v < entry_at l.ears (entry_at l.third.items v)))

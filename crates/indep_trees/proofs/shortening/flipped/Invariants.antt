use Rattle.std.proofs.Common.{◌≡◌, ◌<◌, ◌-◌, ◌^◌, ℕ, length}
use Rattle.tomo_base.specs.Search.{entry_at}
use Rattle.indep_trees.proofs.shortening.flipped.Given as goal

-- the numbers so far are turned
abbrev pub invariant-loop-v : goal.invariant-loop-v
invariant-loop-v l = (length l.flipped.items ≡ l.v) × ((v : ℕ) → v < l.v → entry_at l.flipped.items v ≡ 2 ^ 32 - 1 - entry_at l.numbers v)

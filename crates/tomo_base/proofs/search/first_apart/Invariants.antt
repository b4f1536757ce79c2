use Rattle.std.proofs.Common.{ℕ, ◌<◌}
use Rattle.tomo_base.specs.Search.{entry_at}
use Rattle.tomo_base.proofs.search.first_apart.Given as goal

abbrev pub invariant-loop-v : goal.invariant-loop-v
invariant-loop-v l = (w : ℕ) → w < l.v → entry_at l.found.rank.items w < l.n

use Rattle.std.proofs.Common.{◌≢◌, ℕ, ◌<◌}
use Rattle.tomo_base.specs.Search.{entry_at}
use Rattle.indep_trees.proofs.placing.first_place.Given as goal

-- the two nodes have none of the places so far
abbrev pub invariant-loop-i : goal.invariant-loop-i
invariant-loop-i l = (k : ℕ) → k < l.i → (entry_at l.nodes k ≢ l.v) × (entry_at l.nodes k ≢ l.w)

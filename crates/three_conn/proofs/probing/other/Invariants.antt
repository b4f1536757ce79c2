use Rattle.std.proofs.Common.{◌≡◌, ◌<◌, ℕ, true}
use Rattle.tomo_base.specs.Search.{mark_of}
use Rattle.three_conn.proofs.probing.other.Given as goal

-- of the nodes so far the set has the root at most
abbrev pub invariant-loop-v : goal.invariant-loop-v
invariant-loop-v l = (k : ℕ) → k < l.v → mark_of l.nodes k ≡ true → k ≡ l.root

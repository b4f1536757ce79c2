use Rattle.std.proofs.Common.{◌≡◌, ◌<◌, ℕ, false}
use Rattle.tomo_base.specs.Search.{mark_of}
use Rattle.three_conn.proofs.marks.first_marked.Given as goal

abbrev pub invariant-loop-v : goal.invariant-loop-v
invariant-loop-v l = (k : ℕ) → k < l.v → mark_of l.marks k ≡ false

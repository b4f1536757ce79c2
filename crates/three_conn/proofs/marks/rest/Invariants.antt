use Rattle.std.proofs.Common.{◌≡◌, ◌&&◌, ℕ, not, nat_lt, length}
use Rattle.tomo_base.specs.Search.{mark_of}
use Rattle.three_conn.proofs.marks.rest.Given as goal

-- the held nodes below v have lost their marks
abbrev pub invariant-loop-v : goal.invariant-loop-v
invariant-loop-v l = record {
  same : length l.free.items ≡ length l.nodes;
  marks : (k : ℕ) → mark_of l.free.items k ≡ (mark_of l.nodes k && not (nat_lt k l.v && mark_of l.held k));
}

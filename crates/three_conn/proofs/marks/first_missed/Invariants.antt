use Rattle.std.proofs.Common.{◌≡◌, ◌<◌, ℕ, true, length}
use Rattle.tomo_base.specs.Search.{mark_of, entry_at}
use Rattle.three_conn.proofs.marks.first_missed.Given as goal

abbrev pub invariant-loop-v : goal.invariant-loop-v
invariant-loop-v l = (k : ℕ) → k < l.v → mark_of l.free k ≡ true → entry_at l.rank k < length l.free

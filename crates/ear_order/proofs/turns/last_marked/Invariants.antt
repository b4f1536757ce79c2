use Rattle.std.proofs.Common.{◌≡◌, ◌<◌, ◌≤◌, ℕ, false, length}
use Rattle.tomo_base.specs.Search.{mark_of, entry_at}
use Rattle.ear_order.proofs.turns.last_marked.Given as goal

-- no node from here on has a mark
abbrev pub invariant-loop-place : goal.invariant-loop-place
invariant-loop-place l = (l.place ≤ length l.nodes) × ((k : ℕ) → l.place ≤ k → k < length l.nodes → mark_of l.marks (entry_at l.nodes k) ≡ false)

abbrev pub decreases-loop-place : goal.decreases-loop-place
decreases-loop-place l = l.place

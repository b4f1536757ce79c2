use Rattle.std.proofs.Common.{ℕ, ◌-◌, ◌<◌, ◌≤◌, length}
use Rattle.tomo_base.specs.Search.{mark_of}
use Rattle.ear_order.specs.Turns.{IsSpot}
use Rattle.ear_order.proofs.candidates.last_spot.Given as goal

-- no place from here on is one
abbrev pub invariant-loop-place : goal.invariant-loop-place
invariant-loop-place l = ((j : ℕ) → IsSpot l.g (mark_of l.part) l.ear j → j < l.place) × (l.place ≤ length l.ear - 1)

abbrev pub decreases-loop-place : goal.decreases-loop-place
decreases-loop-place l = l.place

use Rattle.std.proofs.Common.{ℕ, ◌≤◌}
use Rattle.tomo_base.specs.Search.{mark_of}
use Rattle.ear_order.specs.Turns.{IsSpot}
use Rattle.ear_order.proofs.candidates.first_spot.Given as goal

-- no place so far is one
abbrev pub invariant-loop-i : goal.invariant-loop-i
invariant-loop-i l = (j : ℕ) → IsSpot l.g (mark_of l.part) l.ear j → l.i ≤ j

use Rattle.std.proofs.Common.{ℕ, ◌<◌, ◌≤◌}
use Rattle.tomo_base.specs.Search.{mark_of, entry_at}
use Rattle.ear_order.specs.Easy.{CanGo}
use Rattle.ear_order.proofs.sparing.all_can_go.Given as goal

-- those so far can go
abbrev pub invariant-loop-k : goal.invariant-loop-k
invariant-loop-k l = (j : ℕ) → 1 ≤ j → j < l.k → CanGo l.g (mark_of l.gone) (entry_at l.rank) (entry_at l.way j)

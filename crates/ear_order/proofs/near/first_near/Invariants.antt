use Rattle.std.proofs.Common.{◌≡◌, ℕ, ◌<◌, true}
use Rattle.tomo_base.specs.Network.{linked}
use Rattle.tomo_base.specs.Search.{mark_of, entry_at}
use Rattle.ear_order.proofs.near.first_near.Given as goal

-- no node so far has one
abbrev pub invariant-loop-place : goal.invariant-loop-place
invariant-loop-place l = (k w : ℕ) → k < l.place → linked l.g (entry_at l.nodes k) w ≡ true → mark_of l.marks w ≡ true → w ≡ l.other

use Rattle.std.proofs.Common.{◌≡◌, ◌-◌, ◌<◌, ℕ, false, length, All}
use Rattle.tomo_base.specs.Search.{mark_of, entry_at}
use Rattle.ear_order.specs.Ears.{IsOrder}
use Rattle.ear_order.specs.Easy.{IsFounded, AreMarks, IsLonger}
use Rattle.ear_order.proofs.orders.add_easy.Given as goal

-- an order with more ears, the marks of its nodes, twice, and neighbours of lower rank for those that are left
abbrev pub invariant-loop-gone : goal.invariant-loop-gone
invariant-loop-gone l =
    IsLonger l.fn.ears l.ears × IsOrder l.ears × AreMarks l.ears l.old.items × (mark_of l.old.items l.u ≡ false) × IsFounded l.g (mark_of l.old.items) (entry_at l.tree.rank.items) l.u × All (λ v. v < l.g.nodes) l.asked.near.items × All (λ v. v < l.g.nodes) l.asked.all.items
    × (length l.gone.items ≡ l.g.nodes) × ((w : ℕ) → mark_of l.gone.items w ≡ mark_of l.old.items w)

-- it has one ear more each time
abbrev pub decreases-loop-gone : goal.decreases-loop-gone
decreases-loop-gone l = l.g.nodes - length l.ears.list

use Rattle.std.proofs.Common.{◌≡◌, ◌-◌, length}
use Rattle.ear_order.specs.Ears.{IsOrder}
use Rattle.ear_order.proofs.orders.order.Given as goal

-- an order of the graph for these nodes
abbrev pub invariant-loop-ears : goal.invariant-loop-ears
invariant-loop-ears l = (l.ears.graph ≡ l.g) × (l.ears.r ≡ l.r) × (l.ears.t ≡ l.t) × (l.ears.u ≡ l.u) × IsOrder l.ears

-- it has one ear more each time
abbrev pub decreases-loop-ears : goal.decreases-loop-ears
decreases-loop-ears l = l.g.nodes - length l.ears.list

use Rattle.ear_order.proofs.Ordering.{order_nodes}
use Rattle.ear_order.proofs.orders.EarOrder.marks.Goals as goal

pub in_some_ear-requires : goal.in_some_ear-requires
in_some_ear-requires c = rw c.deref.ensures.value (order_nodes _ c.self.invariant)

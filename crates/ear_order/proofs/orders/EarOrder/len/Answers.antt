use Rattle.std.proofs.Common.{arith}
use Rattle.std.proofs.lemmas.List.{length-map}
use Rattle.ear_order.proofs.Ordering.{order_short}
use Rattle.ear_order.proofs.orders.EarOrder.len.Goals as goal

pub overflow_cast-result : goal.overflow_cast-result
overflow_cast-result c = omega (arith, order_short _ c.self.invariant, c.self.invariant.few, c.len.ensures, length-map c.self.inside.ears.items (λ e. e.items), c.self.inside.ears.ok)

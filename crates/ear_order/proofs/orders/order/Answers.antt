use Rattle.std.proofs.Common.{◌≡◌, ◌+◌, ◌-◌, ◌<◌, ◌≤◌, length, ap, ◌∙◌, arith}
use Rattle.std.proofs.lemmas.List.{length_push}
use Rattle.tomo_base.specs.Network.{Network}
use Rattle.ear_order.specs.Ears.{Ears}
use Rattle.ear_order.proofs.Ordering.{order_short}
use Rattle.ear_order.proofs.orders.order.Goals as goal

pub loop-ears-smaller : goal.loop-ears-smaller
loop-ears-smaller c =
    let old = c.loop-ears.ears in
    let mid = c.add_easy.new.ears in
    let new = c.next.new.self in
    let kept = c.in_ok-add_easy.ensures.longer in
    let adds = c.in_ok-next.ensures.more c.in-More.is in
    let longer : length new.list ≡ length mid.list + 1 = ap (λ (z : Ears). length z.list) adds.1 ∙ length_push mid.list adds.0 in
    let nodes : new.graph.nodes ≡ c.args.g.now.nodes = ap (λ (z : Ears). z.graph.nodes) adds.1 ∙ (ap (λ (z : Ears). z.graph.nodes) kept.0 ∙ ap (λ (z : Network). z.nodes) c.loop-ears.invariant.0) in
    let short : length new.list ≤ new.graph.nodes = order_short new c.in_ok-next.ensures.order in
    let smaller : c.args.g.now.nodes - length new.list < c.args.g.now.nodes - length old.list = omega (arith, longer, nodes, short, kept.1) in
    smaller

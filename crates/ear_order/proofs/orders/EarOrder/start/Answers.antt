use Rattle.std.proofs.Common.{◌≡◌, ◌-◌, ◌++◌, [], ◌∷◌, ℕ, List, Vec, map, false, length, replicate, ap, ap₂, ◌∙◌, arith}
use Rattle.std.specs.Global.{Global}
use Rattle.std.proofs.lemmas.List.{length-replicate}
use Rattle.tomo_base.specs.declared.graph.Link.{Link}
use Rattle.tomo_base.specs.Network.{Network}
use Rattle.tomo_base.proofs.Links.{linked_below}
use Rattle.ear_order.specs.Ears.{Ears, IsOrder}
use Rattle.ear_order.proofs.Lists.{different_at}
use Rattle.ear_order.proofs.Starting.{marks_first, left_first, order_first}
use Rattle.ear_order.proofs.orders.EarOrder.start.Goals.{In_ok-push}
use Rattle.ear_order.proofs.orders.EarOrder.start.Goals as goal

pub index_mut-requires : goal.index_mut-requires
index_mut-requires c =
    let g = c.args.g.now in
    let bare : c.in_ok-old.old.items ≡ replicate c.nodes-n.result false = c.in_ok-old.ensures.items_if_clones_equal (λ y h. h) in
    let size : length c.in_ok-old.old.items ≡ c.nodes-n.result = ap length bare ∙ length-replicate c.nodes-n.result false in
    omega (arith, (linked_below g.nodes g.links c.args.r c.args.t c.nodes-n.ensures.graph c.requires.ends.link).0, size, c.nodes-n.ensures.nodes, c.in_ok-old.old.ok)

pub index_mut-requires-2 : goal.index_mut-requires-2
index_mut-requires-2 c =
    let g = c.args.g.now in
    let bare : c.in_ok-old.old.items ≡ replicate c.nodes-n.result false = c.in_ok-old.ensures.items_if_clones_equal (λ y h. h) in
    let size : length c.in_ok-old.old.items ≡ c.nodes-n.result = ap length bare ∙ length-replicate c.nodes-n.result false in
    omega (arith, (linked_below g.nodes g.links c.args.r c.args.t c.nodes-n.ensures.graph c.requires.ends.link).1, size, c.nodes-n.ensures.nodes, c.in_ok-old.old.ok)

pub next_ear-requires : goal.next_ear-requires
next_ear-requires c =
    let marks = marks_first c.args.g.now c.nodes-n.ensures.graph c.nodes-n.result c.args.r c.args.t c.nodes-n.ensures.nodes c.requires.ends.link c.in_ok-old.old.items c.deref.result.now (c.in_ok-old.ensures.items_if_clones_equal (λ y h. h)) c.deref.ensures.value in
    left_first c.args.g.now c.nodes-n.ensures.graph c.requires.three c.args.r c.args.t c.args.u c.requires.ends c.deref.result.now marks.0 marks.1

pub facing-first-requires-clause-some : goal.facing-first-requires-clause-some
facing-first-requires-clause-some c = omega (arith, c.in_ok-next_ear.ensures.ear.three)

pub facing-first-requires-clause-ends : goal.facing-first-requires-clause-ends
facing-first-requires-clause-ends c = different_at c.in_ok-next_ear.field-0.items c.in_ok-next_ear.ensures.ear.different 0 (length c.in_ok-next_ear.field-0.items - 1) (omega (arith, c.in_ok-next_ear.ensures.ear.three)) (omega (arith, c.in_ok-next_ear.ensures.ear.three))

-- the order of the first ear
begun : (c : In_ok-push) → IsOrder (record { graph = record { nodes = c.nodes-n.result; links = c.in_ok-links.links.items }; r = c.args.r; t = c.args.t; u = c.args.u; list = map (λ e. e.items) c.push.new.self.items })
begun c =
    let marks = marks_first c.args.g.now c.nodes-n.ensures.graph c.nodes-n.result c.args.r c.args.t c.nodes-n.ensures.nodes c.requires.ends.link c.in_ok-old.old.items c.deref.result.now (c.in_ok-old.ensures.items_if_clones_equal (λ y h. h)) c.deref.ensures.value in
    let network : ℕ → List Link → Network = λ n ls. record { nodes = n; links = ls } in
    let same : network c.nodes-n.result c.in_ok-links.links.items ≡ c.args.g.now = ap₂ network c.nodes-n.ensures.nodes (c.in_ok-links.ensures.items_if_clones_equal (λ x y h. h) ∙ c.links.ensures.links) in
    let one : c.push.new.self.items ≡ c.facing-first.result ∷ [] = c.in_ok-push.ensures.items ∙ ap (λ z. z ++ c.facing-first.result ∷ []) c.new-ears.ensures.items in
    rw (same, one) (order_first c.args.g.now c.nodes-n.ensures.graph c.requires.three c.args.r c.args.t c.args.u c.requires.ends c.deref.result.now marks.0
    (omega (arith, c.nodes-n.ensures.nodes, c.nodes-n.ensures.few)) c.facing-first.result.items c.in_ok-next_ear.field-0.items c.in_ok-next_ear.ensures.ear c.in_ok-next_ear.ensures.next c.facing-first.ensures.ear c.facing-first.ensures.starts)

pub invariant_of-result : goal.invariant_of-result
invariant_of-result c = begun (goal.at.invariant_of-result c).In_ok-push

pub returns-clause-begun : goal.returns-clause-begun
returns-clause-begun c =
    let network : ℕ → List Link → Network = λ n ls. record { nodes = n; links = ls } in
    let same : network c.nodes-n.result c.in_ok-links.links.items ≡ c.args.g.now = ap₂ network c.nodes-n.ensures.nodes (c.in_ok-links.ensures.items_if_clones_equal (λ x y h. h) ∙ c.links.ensures.links) in
    let one : c.push.new.self.items ≡ c.facing-first.result ∷ [] = c.in_ok-push.ensures.items ∙ ap (λ z. z ++ c.facing-first.result ∷ []) c.new-ears.ensures.items in
    let view : Network → List (Vec ℕ Global) → Ears = λ g es. record { graph = g; r = c.args.r; t = c.args.t; u = c.args.u; list = map (λ e. e.items) es } in
    (c.facing-first.result.items, ap₂ view same one)

pub returns-clause-order : goal.returns-clause-order
returns-clause-order c = begun (goal.at.returns-clause-order c).In_ok-push

use Rattle.std.proofs.Common.{◌≡◌, ◌<◌, true, cond, map, All, sym, subst}
use Rattle.tomo_base.specs.Sets.{has}
use Rattle.tomo_base.specs.Search.{mark_of}
use Rattle.ear_order.specs.Ears.{Ears, IsOrder}
use Rattle.ear_order.specs.Easy.{AreMarks, with_one_ear}
use Rattle.ear_order.proofs.InEars.{map_push}
use Rattle.ear_order.proofs.Putting.{order_with_one_ear, marks_with_one_ear}
use Rattle.ear_order.proofs.Spots.{ear_all}
use Rattle.ear_order.proofs.orders.EarOrder.put.Goals.{In_ok-push}
use Rattle.ear_order.proofs.orders.EarOrder.put.Goals as goal

pub mark-requires : goal.mark-requires
mark-requires c =
    let o = c.args.self.now in
    subst (λ n. All (λ v. v < n) c.deref.result.now) (sym c.requires.marks.0)
    (subst (All (λ v. v < o.graph.nodes)) (sym c.deref.ensures.value) (ear_all o.graph c.requires.order.graph (mark_of c.args.old.now.items) c.args.ear.items c.requires.ear))

-- the order with the ear
grown : (c : In_ok-push) → IsOrder (record { graph = record { nodes = c.self.inside.node_count; links = c.self.inside.links.items }; r = c.self.inside.r; t = c.self.inside.t; u = c.self.inside.u; list = map (λ e. e.items) c.push.new.self.items })
grown c =
    let o = c.args.self.now in
    rw (c.in_ok-push.ensures.items, map_push c.self.inside.ears.items c.args.ear)
    (subst (λ (z : Ears). IsOrder (with_one_ear z c.args.ear.items)) (sym c.self.view_is) (order_with_one_ear o c.requires.order c.args.old.now.items c.requires.marks c.args.ear.items c.requires.ear c.requires.next))

pub invariant_of-self-2 : goal.invariant_of-self-2
invariant_of-self-2 c = grown (goal.at.invariant_of-self-2 c).In_ok-push

pub returns-clause-marks : goal.returns-clause-marks
returns-clause-marks c =
    let o = c.args.self.now in
    let more : AreMarks (with_one_ear o c.args.ear.items) c.mark.new.marks.items = marks_with_one_ear o c.args.old.now.items c.mark.new.marks.items c.args.ear.items c.requires.marks c.mark.ensures.size
    (λ v. subst (λ xs. mark_of c.mark.new.marks.items v ≡ cond (has xs v) true (mark_of c.args.old.now.items v)) c.deref.ensures.value (c.mark.ensures.marks v)) in
    rw (c.in_ok-push.ensures.items, map_push c.self.inside.ears.items c.args.ear) (subst (λ (z : Ears). AreMarks (with_one_ear z c.args.ear.items) c.mark.new.marks.items) (sym c.self.view_is) more)

pub returns-clause-order : goal.returns-clause-order
returns-clause-order c = grown (goal.at.returns-clause-order c).In_ok-push

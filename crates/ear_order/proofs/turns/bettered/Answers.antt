use Rattle.std.proofs.Common.{◌≡◌, ◌-◌, ◌<◌, ◌&&◌, not, false, All, sym, subst, ap, ◌∙◌, arith}
use Rattle.tomo_base.specs.Sets.{has, count}
use Rattle.tomo_base.specs.Search.{mark_of}
use Rattle.tomo_base.proofs.Counts.{count-le}
use Rattle.ear_order.specs.Turns.{IsBetter, IsFreePart}
use Rattle.tomo_base.proofs.Marks.{marked_below}
use Rattle.ear_order.proofs.Spots.{ear_all}
use Rattle.ear_order.proofs.Bettering.{order_below}
use Rattle.ear_order.proofs.Turning.{u_off, round_from, turn_from, ends_from, grows_to}
use Rattle.ear_order.proofs.turns.bettered.Goals.{After-deref-in-loop-part-3}
use Rattle.ear_order.proofs.turns.bettered.Goals as goal

pub part_left-requires-clause-nodes : goal.part_left-requires-clause-nodes
part_left-requires-clause-nodes c = subst (All (λ v. v < c.args.g.now.nodes)) (sym c.deref.ensures.value) (ear_all c.args.g.now c.nodes-nodes.ensures.graph (mark_of c.args.old.now) c.args.first.items c.requires.ear)

pub part_left-requires-clause-off : goal.part_left-requires-clause-off
part_left-requires-clause-off c = ap (λ xs. has xs c.args.u) c.deref.ensures.value
    ∙ u_off c.args.g.now c.nodes-nodes.ensures.graph c.args.old.now c.args.rest.now c.args.u c.requires.left c.requires.rest c.args.first.items c.requires.ear c.requires.off

pub beyond-requires-clause-nodes : goal.beyond-requires-clause-nodes
beyond-requires-clause-nodes c =
    order_below c.args.g.now (λ v. mark_of c.args.rest.now v && not (has c.loop-part.ear.items v)) (mark_of c.loop-part.part.inside.items) c.args.u c.loop-part.part.order.items c.loop-part.invariant.2
    (λ v h. subst (λ n. v < n) c.loop-part.invariant.3 (marked_below c.loop-part.part.inside.items v h))

pub returns-in_default-clause-goes_on : goal.returns-in_default-clause-goes_on
returns-in_default-clause-goes_on c =
    ends_from c.args.g.now c.nodes-nodes.ensures.graph c.args.old.now c.args.rest.now c.args.u c.requires.left c.requires.rest c.loop-part.ear.items c.loop-part.invariant.0 c.loop-part.invariant.1
    c.loop-part.part.order.items (mark_of c.loop-part.part.inside.items) c.loop-part.invariant.2 (mark_of c.in_ok-others.others.items) c.in_ok-others.ensures.beyond
    (λ v r. subst (λ xs. mark_of xs v ≡ false) c.deref-in-loop-part.ensures.value (c.in_default.ensures.none v (c.requires.all v r)))

pub better-requires-clause-turn : goal.better-requires-clause-turn
better-requires-clause-turn c =
    let t =
    turn_from c.args.g.now c.nodes-nodes.ensures.graph c.args.old.now c.args.rest.now c.args.u c.requires.left c.requires.rest c.loop-part.ear.items c.loop-part.invariant.0 c.loop-part.invariant.1
    c.loop-part.part.order.items (mark_of c.loop-part.part.inside.items) c.loop-part.invariant.2 (mark_of c.in_ok-others.others.items) c.in_ok-others.ensures.beyond
    c.in-Some.x c.in_ok-further.further.order.items (mark_of c.in_ok-further.further.inside.items)
    (subst (λ xs. IsFreePart c.args.g.now (mark_of xs) c.in-Some.x c.in_ok-further.further.order.items (mark_of c.in_ok-further.further.inside.items)) c.deref-in-loop-part-2.ensures.value c.in_ok-further.ensures.part) in
    (mark_of c.args.rest.now, mark_of c.loop-part.part.inside.items, c.args.u, t)

-- the ear of a turn is better
better_ear : (c : After-deref-in-loop-part-3) → IsBetter c.args.g.now (mark_of c.args.old.now) (mark_of c.args.rest.now) (mark_of c.loop-part.part.inside.items) c.in_ok-ear.ear.items
better_ear c =
    let t =
    turn_from c.args.g.now c.nodes-nodes.ensures.graph c.args.old.now c.args.rest.now c.args.u c.requires.left c.requires.rest c.loop-part.ear.items c.loop-part.invariant.0 c.loop-part.invariant.1
    c.loop-part.part.order.items (mark_of c.loop-part.part.inside.items) c.loop-part.invariant.2 (mark_of c.in_ok-others.others.items) c.in_ok-others.ensures.beyond
    c.in-Some.x c.in_ok-further.further.order.items (mark_of c.in_ok-further.further.inside.items)
    (subst (λ xs. IsFreePart c.args.g.now (mark_of xs) c.in-Some.x c.in_ok-further.further.order.items (mark_of c.in_ok-further.further.inside.items)) c.deref-in-loop-part-2.ensures.value c.in_ok-further.ensures.part) in
    c.in_ok-ear.ensures (mark_of c.args.rest.now) (mark_of c.loop-part.part.inside.items) c.args.u t

pub part_left-requires-in-loop-part-clause-nodes : goal.part_left-requires-in-loop-part-clause-nodes
part_left-requires-in-loop-part-clause-nodes c =
    let b = better_ear (goal.at.part_left-requires-in-loop-part-clause-nodes c).After-deref-in-loop-part-3 in
    subst (All (λ v. v < c.args.g.now.nodes)) (sym c.deref-in-loop-part-3.ensures.value) (ear_all c.args.g.now c.nodes-nodes.ensures.graph (mark_of c.args.old.now) c.in_ok-ear.ear.items b.is_ear)

pub part_left-requires-in-loop-part-clause-off : goal.part_left-requires-in-loop-part-clause-off
part_left-requires-in-loop-part-clause-off c =
    let b = better_ear (goal.at.part_left-requires-in-loop-part-clause-off c).After-deref-in-loop-part-3 in
    ap (λ xs. has xs c.args.u) c.deref-in-loop-part-3.ensures.value
    ∙ u_off c.args.g.now c.nodes-nodes.ensures.graph c.args.old.now c.args.rest.now c.args.u c.requires.left c.requires.rest c.in_ok-ear.ear.items b.is_ear (b.keeps c.args.u c.loop-part.invariant.2.holds)

pub loop-part-smaller : goal.loop-part-smaller
loop-part-smaller c =
    let g = c.args.g.now in
    let C = mark_of c.loop-part.part.inside.items in
    let C' = mark_of c.in_ok-part-2.part.inside.items in
    let b = better_ear (goal.at.loop-part-smaller c).After-deref-in-loop-part-3 in
    let p : IsFreePart g (λ v. mark_of c.args.rest.now v && not (has c.in_ok-ear.ear.items v)) c.args.u c.in_ok-part-2.part.order.items C' =
    subst (λ xs. IsFreePart g (λ v. mark_of c.args.rest.now v && not (has xs v)) c.args.u c.in_ok-part-2.part.order.items C') c.deref-in-loop-part-3.ensures.value c.in_ok-part-2.ensures.part in
    let r = round_from g c.nodes-nodes.ensures.graph c.args.old.now c.args.rest.now c.args.u c.requires.left c.requires.rest c.in_ok-ear.ear.items b.is_ear (b.keeps c.args.u c.loop-part.invariant.2.holds) c.in_ok-part-2.part.order.items C' p in
    let grown : count g.nodes C < count g.nodes C' = grows_to g c.nodes-nodes.ensures.graph c.args.old.now c.args.rest.now c.args.u c.requires.left c.requires.rest c.loop-part.ear.items c.loop-part.invariant.0 c.loop-part.invariant.1
    c.loop-part.part.order.items C c.loop-part.invariant.2 c.in_ok-ear.ear.items b C' r.part_closed r.part_has in
    let smaller : g.nodes - count g.nodes C' < g.nodes - count g.nodes C = omega (arith, grown, count-le g.nodes C') in
    smaller

pub loop-part-preserved : goal.loop-part-preserved
loop-part-preserved c =
    let g = c.args.g.now in
    let b = better_ear (goal.at.loop-part-preserved c).After-deref-in-loop-part-3 in (
      b.is_ear,
      b.keeps c.args.u c.loop-part.invariant.2.holds,
      subst (λ xs. IsFreePart g (λ v. mark_of c.args.rest.now v && not (has xs v)) c.args.u c.in_ok-part-2.part.order.items (mark_of c.in_ok-part-2.part.inside.items)) c.deref-in-loop-part-3.ensures.value c.in_ok-part-2.ensures.part,
      c.in_ok-part-2.ensures.marks,
    )

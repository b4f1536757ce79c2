use Rattle.std.proofs.Common.{◌≡◌, ◌<◌, ◌-◌, ℕ, Vec, All, true, false, length, set, sym, subst, ap, ◌∙◌}
use Rattle.std.specs.Global.{Global}
use Rattle.std.specs.List.{AllWithin}
use Rattle.std.proofs.lemmas.Result.{IfOk-weaker}
use Rattle.tomo_base.specs.Network.{linked}
use Rattle.tomo_base.specs.Search.{mark_of, entry_at}
use Rattle.ear_order.specs.Crossing.{Crosses}
use Rattle.ear_order.specs.Turns.{between}
use Rattle.ear_order.proofs.Lists.{between_off}
use Rattle.ear_order.proofs.Remaining.{part_off_u, part_off_old, part_below, part_crosses, part_touched}
use Rattle.ear_order.proofs.candidates.candidate.Goals as goal

pub first_near-requires-clause-nodes : goal.first_near-requires-clause-nodes
first_near-requires-clause-nodes c = subst (All (λ v. v < c.args.g.now.nodes)) (sym c.deref-2.ensures.value)
    (part_below c.args.g.now c.nodes-none.ensures.graph c.args.old.now c.args.u c.requires.left c.args.rest.now c.requires.rest c.deref.result.now
    (c.deref.ensures.value ∙ ap (λ xs. set xs c.args.u false) (c.in_ok-free.ensures.items_if_clones_equal (λ y h e. e)))
    c.args.x c.in_ok-part.part.order.items (mark_of c.in_ok-part.part.inside.items) c.in_ok-part.ensures.part)

pub cross-requires-clause-off : goal.cross-requires-clause-off
cross-requires-clause-off c = rw c.deref-in-Some.ensures.value
    (part_off_old c.args.g.now c.nodes-none.ensures.graph c.args.old.now c.args.u c.requires.left c.args.rest.now c.requires.rest c.deref.result.now
    (c.deref.ensures.value ∙ ap (λ xs. set xs c.args.u false) (c.in_ok-free.ensures.items_if_clones_equal (λ y h e. e)))
    c.args.x c.in_ok-part.part.order.items (mark_of c.in_ok-part.part.inside.items) c.in_ok-part.ensures.part)

pub cross-requires-clause-crosses : goal.cross-requires-clause-crosses
cross-requires-clause-crosses c =
    let order = c.in_ok-part.part.order.items in
    let place = c.in-Some.met.place in
    subst (λ zone. Crosses c.args.g.now (mark_of c.args.old.now) (mark_of zone) c.in-Some.met.node) (sym c.deref-in-Some.ensures.value)
    (part_crosses c.args.g.now c.nodes-none.ensures.graph c.args.old.now c.args.u c.requires.left c.args.rest.now c.requires.rest c.deref.result.now
    (c.deref.ensures.value ∙ ap (λ xs. set xs c.args.u false) (c.in_ok-free.ensures.items_if_clones_equal (λ y h e. e)))
    c.args.x order (mark_of c.in_ok-part.part.inside.items) c.in_ok-part.ensures.part place c.in-Some.met.node
    (subst (λ xs. place < length xs) c.deref-2.ensures.value c.in-Some.ensures.place)
    (subst (λ xs. linked c.args.g.now (entry_at xs place) c.in-Some.met.node ≡ true) c.deref-2.ensures.value c.in-Some.ensures.link)
    c.in-Some.ensures.marked)

pub unreachable-requires : goal.unreachable-requires
unreachable-requires c =
    let order = c.in_ok-part.part.order.items in
    part_touched c.args.g.now c.nodes-none.ensures.graph c.args.old.now c.args.u c.requires.left c.args.rest.now c.requires.rest c.deref.result.now
    (c.deref.ensures.value ∙ ap (λ xs. set xs c.args.u false) (c.in_ok-free.ensures.items_if_clones_equal (λ y h e. e)))
    c.args.x order (mark_of c.in_ok-part.part.inside.items) c.in_ok-part.ensures.part c.nodes-none.result c.nodes-none.ensures.nodes
    (λ k w l link old. c.in-None.ensures.none k w (subst (λ xs. k < length xs) (sym c.deref-2.ensures.value) l) (subst (λ xs. linked c.args.g.now (entry_at xs k) w ≡ true) (sym c.deref-2.ensures.value) link) old)

pub returns-clause-off : goal.returns-clause-off
returns-clause-off c =
    let out = part_off_u c.args.g.now c.nodes-none.ensures.graph c.args.old.now c.args.u c.requires.left c.args.rest.now c.requires.rest c.deref.result.now
    (c.deref.ensures.value ∙ ap (λ xs. set xs c.args.u false) (c.in_ok-free.ensures.items_if_clones_equal (λ y h e. e)))
    c.args.x c.in_ok-part.part.order.items (mark_of c.in_ok-part.part.inside.items) c.in_ok-part.ensures.part in
    let zone_out : mark_of c.deref-in-Some.result.now c.args.u ≡ false = ap (λ zone. mark_of zone c.args.u) c.deref-in-Some.ensures.value ∙ out in
    IfOk-weaker c.cross.result (λ (e : Vec ℕ Global). AllWithin (λ v. mark_of c.deref-in-Some.result.now v ≡ true) e.items 1 (length e.items - 1)) (λ (e : Vec ℕ Global). between e.items c.args.u ≡ false)
    (λ e all. between_off e.items (mark_of c.deref-in-Some.result.now) c.args.u all zone_out) c.cross.ensures.through

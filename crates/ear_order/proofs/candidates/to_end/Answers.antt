use Rattle.std.proofs.Common.{◌≡◌, ◌<◌, ◌-◌, ℕ, Bool, true, Vec, length, sym, subst, ap, ◌∙◌, arith}
use Rattle.std.specs.Global.{Global}
use Rattle.std.specs.List.{AllWithin}
use Rattle.std.proofs.lemmas.Bool.{false≢true}
use Rattle.std.proofs.lemmas.List.{get_or_read}
use Rattle.tomo_base.specs.Search.{mark_of, entry_at}
use Rattle.ear_order.specs.Crossing.{Crosses}
use Rattle.ear_order.specs.Ears.{IsEar}
use Rattle.ear_order.specs.Turns.{IsTurn, IsBetter}
use Rattle.tomo_base.proofs.Marks.{marked_below}
use Rattle.ear_order.proofs.Lists.{ear_at, different_at}
use Rattle.ear_order.proofs.Spots.{ear_below, either_ear}
use Rattle.ear_order.proofs.Results.{if_ok_two}
use Rattle.ear_order.proofs.Bettering.{offer_end, spot_end, is_better}
use Rattle.ear_order.proofs.candidates.to_end.Goals as goal

pub first_spot-requires-clause-nodes : goal.first_spot-requires-clause-nodes
first_spot-requires-clause-nodes c =
    let D = mark_of c.args.old.now in
    rw c.deref.ensures.value (ear_below c.args.g.now c.nodes-nodes.ensures.graph D c.facing-ear.result.items (either_ear c.args.g.now D c.facing-ear.result.items c.args.ear.items c.facing-ear.ensures.ear c.requires.ear))

pub widened-requires-clause-nodes : goal.widened-requires-clause-nodes
widened-requires-clause-nodes c =
    let D = mark_of c.args.old.now in
    rw (c.deref-2.ensures.value, c.requires.setting.marks) (ear_below c.args.g.now c.nodes-nodes.ensures.graph D c.facing-ear.result.items (either_ear c.args.g.now D c.facing-ear.result.items c.args.ear.items c.facing-ear.ensures.ear c.requires.ear))

pub unreachable-requires : goal.unreachable-requires
unreachable-requires c =
    let t = c.requires.turn in
    let s = spot_end c.args.g.now c.nodes-nodes.ensures.graph c.requires.setting.three (mark_of c.args.old.now) (λ v h. subst (λ n. v < n) c.requires.setting.size (marked_below c.args.old.now v h)) c.requires.setting.two
    c.args.ear.items c.requires.ear (mark_of c.args.part.now) t.0 t.1 t.2 t.3 c.facing-ear.result.items c.deref.result.now c.facing-ear.ensures.ear c.deref.ensures.value c.args.d c.requires.single in
    c.in_default.ensures.1 s.0 s.1

pub cross-requires-clause-start : goal.cross-requires-clause-start
cross-requires-clause-start c =
    let D = mark_of c.args.old.now in
    let e = c.facing-ear.result.items in
    let is_ear = either_ear c.args.g.now D e c.args.ear.items c.facing-ear.ensures.ear c.requires.ear in
    let first : c.index.result.now ≡ entry_at e 0 = get_or_read e _ _ (omega (arith, is_ear.three)) c.index.ensures 0 in
    ap D first ∙ (ear_at c.args.g.now D e is_ear).starts

pub cross-requires-clause-off : goal.cross-requires-clause-off
cross-requires-clause-off c =
    let t = c.requires.turn in
    let o = offer_end c.args.g.now c.nodes-nodes.ensures.graph c.requires.setting.three (mark_of c.args.old.now) (λ v h. subst (λ n. v < n) c.requires.setting.size (marked_below c.args.old.now v h)) c.requires.setting.two
    c.args.ear.items c.requires.ear (mark_of c.args.part.now) t.0 t.1 t.2 t.3 c.facing-ear.result.items c.deref.result.now c.deref-2.result.now c.facing-ear.ensures.ear c.deref.ensures.value c.deref-2.ensures.value
    c.args.d c.in-Some.low _ (mark_of c.in_ok-zone.zone.items) c.in_ok-zone.ensures.zone (omega (arith, c.len.ensures, c.facing-ear.result.ok)) c.in-Some.ensures.0.0 c.in-Some.ensures.0.1
    c.requires.single c.requires.old c.requires.near c.facing-ear.ensures.starts in
    rw c.deref-3.ensures.value o.off_old

pub cross-requires-clause-crosses : goal.cross-requires-clause-crosses
cross-requires-clause-crosses c =
    let t = c.requires.turn in
    let D = mark_of c.args.old.now in
    let e = c.facing-ear.result.items in
    let is_ear = either_ear c.args.g.now D e c.args.ear.items c.facing-ear.ensures.ear c.requires.ear in
    let first : c.index.result.now ≡ entry_at e 0 = get_or_read e _ _ (omega (arith, is_ear.three)) c.index.ensures 0 in
    let o = offer_end c.args.g.now c.nodes-nodes.ensures.graph c.requires.setting.three (mark_of c.args.old.now) (λ v h. subst (λ n. v < n) c.requires.setting.size (marked_below c.args.old.now v h)) c.requires.setting.two
    c.args.ear.items c.requires.ear (mark_of c.args.part.now) t.0 t.1 t.2 t.3 c.facing-ear.result.items c.deref.result.now c.deref-2.result.now c.facing-ear.ensures.ear c.deref.ensures.value c.deref-2.ensures.value
    c.args.d c.in-Some.low _ (mark_of c.in_ok-zone.zone.items) c.in_ok-zone.ensures.zone (omega (arith, c.len.ensures, c.facing-ear.result.ok)) c.in-Some.ensures.0.0 c.in-Some.ensures.0.1
    c.requires.single c.requires.old c.requires.near c.facing-ear.ensures.starts in
    subst (λ z. Crosses c.args.g.now D (mark_of z) c.index.result.now) (sym c.deref-3.ensures.value) (subst (λ v. Crosses c.args.g.now D (mark_of c.in_ok-zone.zone.items) v) (sym first) o.crosses)

pub returns : goal.returns
returns c =
    let g = c.args.g.now in
    let D = mark_of c.args.old.now in
    let zone = c.in_ok-zone.zone.items in
    if_ok_two c.cross.result (λ (e : Vec ℕ Global). IsEar g D e.items) (λ (e : Vec ℕ Global). AllWithin (λ v. mark_of c.deref-3.result.now v ≡ true) e.items 1 (length e.items - 1))
    (λ (e : Vec ℕ Global). (R C : ℕ → Bool) (u : ℕ) → IsTurn g D c.args.ear.items (mark_of c.args.part.now) R C u → IsBetter g D R C e.items)
    (λ e ear through R C u t. is_better g D R C (mark_of zone) (entry_at c.facing-ear.result.items 0) e.items
    (offer_end g c.nodes-nodes.ensures.graph c.requires.setting.three D (λ v h. subst (λ n. v < n) c.requires.setting.size (marked_below c.args.old.now v h)) c.requires.setting.two
    c.args.ear.items c.requires.ear (mark_of c.args.part.now) R C u t c.facing-ear.result.items c.deref.result.now c.deref-2.result.now c.facing-ear.ensures.ear c.deref.ensures.value c.deref-2.ensures.value
    c.args.d c.in-Some.low _ (mark_of zone) c.in_ok-zone.ensures.zone (omega (arith, c.len.ensures, c.facing-ear.result.ok)) c.in-Some.ensures.0.0 c.in-Some.ensures.0.1
    c.requires.single c.requires.old c.requires.near c.facing-ear.ensures.starts)
    ear (subst (λ z. AllWithin (λ v. mark_of z v ≡ true) e.items 1 (length e.items - 1)) c.deref-3.ensures.value through))
    c.cross.ensures.ear c.cross.ensures.through

pub facing-ear-requires-clause-ends : goal.facing-ear-requires-clause-ends
facing-ear-requires-clause-ends c = different_at c.args.ear.items c.requires.ear.different 0 (length c.args.ear.items - 1) (omega (arith, c.requires.ear.three)) (omega (arith, c.requires.ear.three))

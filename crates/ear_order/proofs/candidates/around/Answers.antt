use Rattle.std.proofs.Common.{◌≡◌, ◌<◌, ◌-◌, ℕ, Bool, true, Vec, length, sym, subst, arith}
use Rattle.std.specs.Global.{Global}
use Rattle.std.specs.List.{AllWithin}
use Rattle.std.proofs.lemmas.Bool.{false≢true}
use Rattle.tomo_base.specs.Search.{mark_of, entry_at}
use Rattle.ear_order.specs.Ears.{IsEar}
use Rattle.ear_order.specs.Turns.{Zone, IsTurn, IsBetter, IsSpot}
use Rattle.tomo_base.proofs.Marks.{marked_below}
use Rattle.ear_order.proofs.Spots.{ear_below}
use Rattle.ear_order.proofs.Offers.{Offer}
use Rattle.ear_order.proofs.Results.{if_ok_two}
use Rattle.ear_order.proofs.Bettering.{spots_three, offer_three, is_better}
use Rattle.ear_order.proofs.candidates.around.Goals.{After-nodes-nodes, After-deref}
use Rattle.ear_order.proofs.candidates.around.Goals as goal

pub first_spot-requires-clause-nodes : goal.first_spot-requires-clause-nodes
first_spot-requires-clause-nodes c = ear_below c.args.g.now c.nodes-nodes.ensures.graph (mark_of c.args.old.now) c.args.ear.now c.requires.ear

pub last_spot-requires-clause-nodes : goal.last_spot-requires-clause-nodes
last_spot-requires-clause-nodes c = ear_below c.args.g.now c.nodes-nodes.ensures.graph (mark_of c.args.old.now) c.args.ear.now c.requires.ear

pub widened-requires-clause-nodes : goal.widened-requires-clause-nodes
widened-requires-clause-nodes c = λ k l. omega (arith, ear_below c.args.g.now c.nodes-nodes.ensures.graph (mark_of c.args.old.now) c.args.ear.now c.requires.ear k l, c.requires.setting.marks)

-- three places of the ear touch the part, so some place does
some_spot : (c : After-nodes-nodes) → (i : ℕ) × IsSpot c.args.g.now (mark_of c.args.part.now) c.args.ear.now i
some_spot c =
    let t = c.requires.turn in
    let s = spots_three c.args.g.now c.nodes-nodes.ensures.graph c.requires.setting.three (mark_of c.args.old.now) (λ v h. subst (λ n. v < n) c.requires.setting.size (marked_below c.args.old.now v h)) c.requires.setting.two c.args.ear.now c.requires.ear
    (mark_of c.args.part.now) t.0 t.1 t.2 t.3 (λ w o y. false≢true (c.requires.none w o y)) in
    (s.0, s.5)

pub unreachable-requires : goal.unreachable-requires
unreachable-requires c = let s = some_spot (goal.at.unreachable-requires c).After-nodes-nodes in c.in_default.ensures.1 s.0 s.1

pub unreachable-requires-in_default-last_spot : goal.unreachable-requires-in_default-last_spot
unreachable-requires-in_default-last_spot c = let s = some_spot (goal.at.unreachable-requires-in_default-last_spot c).After-nodes-nodes in c.in_default-last_spot.ensures.1 s.0 s.1

-- the part widened by the ear between the first and the last place that touches it offers a better ear
offer : (c : After-deref) (R C : ℕ → Bool) (u : ℕ) → IsTurn c.args.g.now (mark_of c.args.old.now) c.args.ear.now (mark_of c.args.part.now) R C u
    → Offer c.args.g.now (mark_of c.args.old.now) R C (mark_of c.deref.result.now) (entry_at c.args.ear.now 0)
offer c R C u t =
    rw c.deref.ensures.value (offer_three c.args.g.now c.nodes-nodes.ensures.graph c.requires.setting.three (mark_of c.args.old.now) (λ v h. subst (λ n. v < n) c.requires.setting.size (marked_below c.args.old.now v h)) c.requires.setting.two c.args.ear.now c.requires.ear
    (mark_of c.args.part.now) R C u t c.in-Some.low c.in-Some-last_spot.high (mark_of c.in_ok-zone.zone.items) c.in_ok-zone.ensures.zone c.in-Some.ensures.0.0 c.in-Some.ensures.0.1
    c.in-Some-last_spot.ensures.0.0 c.in-Some-last_spot.ensures.0.1 (λ w o y. false≢true (c.requires.none w o y)))

pub cross-requires-clause-off : goal.cross-requires-clause-off
cross-requires-clause-off c = let t = c.requires.turn in (offer (goal.at.cross-requires-clause-off c).After-deref t.0 t.1 t.2 t.3).off_old

pub cross-requires-clause-crosses : goal.cross-requires-clause-crosses
cross-requires-clause-crosses c = let t = c.requires.turn in (offer (goal.at.cross-requires-clause-crosses c).After-deref t.0 t.1 t.2 t.3).crosses

pub returns : goal.returns
returns c =
    let g = c.args.g.now in
    let D = mark_of c.args.old.now in
    let zone = c.deref.result.now in
    if_ok_two c.cross.result (λ (e : Vec ℕ Global). IsEar g D e.items) (λ (e : Vec ℕ Global). AllWithin (λ v. mark_of zone v ≡ true) e.items 1 (length e.items - 1))
    (λ (e : Vec ℕ Global). (R C : ℕ → Bool) (u : ℕ) → IsTurn g D c.args.ear.now (mark_of c.args.part.now) R C u → IsBetter g D R C e.items)
    (λ e ear through R C u t. is_better g D R C (mark_of zone) (entry_at c.args.ear.now 0) e.items (offer (goal.at.returns c).After-deref R C u t) ear through)
    c.cross.ensures.ear c.cross.ensures.through

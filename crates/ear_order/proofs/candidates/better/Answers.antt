use Rattle.std.proofs.Common.{◌≡◌, ◌<◌, ◌-◌, ℕ, Bool, true, All, Vec, length, sym, subst, arith}
use Rattle.std.specs.Global.{Global}
use Rattle.std.specs.List.{AllWithin}
use Rattle.std.proofs.lemmas.Result.{IfOk-weaker}
use Rattle.tomo_base.specs.Network.{linked}
use Rattle.tomo_base.specs.Search.{mark_of, entry_at}
use Rattle.ear_order.specs.Crossing.{Crosses}
use Rattle.ear_order.specs.Ears.{IsEar}
use Rattle.ear_order.specs.Turns.{IsTurn, IsBetter}
use Rattle.tomo_base.proofs.Marks.{marked_below}
use Rattle.ear_order.proofs.Results.{if_ok_two}
use Rattle.ear_order.proofs.Bettering.{touch_read, offer_one, is_better, order_below, none_touched}
use Rattle.ear_order.proofs.candidates.better.Goals as goal

pub first_near-requires-clause-nodes : goal.first_near-requires-clause-nodes
first_near-requires-clause-nodes c =
    let part = c.requires.order in
    subst (All (λ v. v < c.args.g.now.nodes)) (sym c.deref.ensures.value)
    (order_below c.args.g.now part.0 (mark_of c.args.part.now.inside.items) part.1 c.args.part.now.order.items part.2 (λ v h. subst (λ n. v < n) c.requires.setting.marks (marked_below c.args.part.now.inside.items v h)))

pub around-requires-clause-none : goal.around-requires-clause-none
around-requires-clause-none c = λ w o y.
    let part = c.requires.order in
    let K = c.args.part.now.inside.items in
    let y' = subst (λ z. (v : ℕ) × (mark_of z v ≡ true) × (linked c.args.g.now v w ≡ true)) c.deref-in_default.ensures.value y in
    let same : w ≡ c.nodes-none.result = none_touched c.args.g.now part.0 (mark_of K) (mark_of c.args.old.now) part.1 c.nodes-none.result c.args.part.now.order.items part.2
    (λ k v l link old. c.in_default.ensures.none k v (subst (λ xs. k < length xs) (sym c.deref.ensures.value) l) (subst (λ xs. linked c.args.g.now (entry_at xs k) v ≡ true) (sym c.deref.ensures.value) link) old) w o y' in
    absurd (omega (arith, same, c.nodes-none.ensures.nodes, c.requires.setting.size, marked_below c.args.old.now w o))

pub returns-in_default : goal.returns-in_default
returns-in_default c =
    let g = c.args.g.now in
    let D = mark_of c.args.old.now in
    IfOk-weaker c.around.result (λ (e : Vec ℕ Global). (R C : ℕ → Bool) (u : ℕ) → IsTurn g D c.deref-in_default-2.result.now (mark_of c.deref-in_default.result.now) R C u → IsBetter g D R C e.items)
    (λ (e : Vec ℕ Global). (R C : ℕ → Bool) (u : ℕ) → IsTurn g D c.args.ear.items (mark_of c.args.part.now.inside.items) R C u → IsBetter g D R C e.items)
    (λ e f R C u t. f R C u (subst (λ z. IsTurn g D z (mark_of c.deref-in_default.result.now) R C u) (sym c.deref-in_default-2.ensures.value)
    (subst (λ z. IsTurn g D c.args.ear.items (mark_of z) R C u) (sym c.deref-in_default.ensures.value) t)))
    c.around.ensures

pub first_near-requires-2-clause-nodes : goal.first_near-requires-2-clause-nodes
first_near-requires-2-clause-nodes c =
    let part = c.requires.order in
    subst (All (λ v. v < c.args.g.now.nodes)) (sym c.deref-2.ensures.value)
    (order_below c.args.g.now part.0 (mark_of c.args.part.now.inside.items) part.1 c.args.part.now.order.items part.2 (λ v h. subst (λ n. v < n) c.requires.setting.marks (marked_below c.args.part.now.inside.items v h)))

pub cross-requires-clause-crosses : goal.cross-requires-clause-crosses
cross-requires-clause-crosses c =
    let D = mark_of c.args.old.now in
    let K = mark_of c.args.part.now.inside.items in
    let t = c.requires.turn in
    let o = offer_one c.args.g.now c.nodes-none.ensures.graph c.requires.setting.three D (λ v h. subst (λ n. v < n) c.requires.setting.size (marked_below c.args.old.now v h)) c.requires.setting.two c.args.ear.items c.requires.ear
    K t.0 t.1 t.2 t.3 c.in-Some.first.node c.in-Some-first_near.field-0.node c.in-Some.ensures.marked c.in-Some-first_near.ensures.marked c.in-Some-first_near.ensures.differs
    (touch_read c.args.g.now K c.args.part.now.order.items _ _ _ c.requires.order.2.only c.deref.ensures.value c.in-Some.ensures.place c.in-Some.ensures.link)
    (touch_read c.args.g.now K c.args.part.now.order.items _ _ _ c.requires.order.2.only c.deref-2.ensures.value c.in-Some-first_near.ensures.place c.in-Some-first_near.ensures.link) in
    subst (λ z. Crosses c.args.g.now D (mark_of z) c.in-Some.first.node) (sym c.deref-in-Some-first_near.ensures.value) o.crosses

pub to_end-requires-clause-single : goal.to_end-requires-clause-single
to_end-requires-clause-single c = λ w o y.
    let part = c.requires.order in
    let y' = subst (λ z. (v : ℕ) × (mark_of z v ≡ true) × (linked c.args.g.now v w ≡ true)) c.deref-in-None.ensures.value y in
    none_touched c.args.g.now part.0 (mark_of c.args.part.now.inside.items) (mark_of c.args.old.now) part.1 c.in-Some.first.node c.args.part.now.order.items part.2
    (λ k v l link old. c.in-None.ensures.none k v (subst (λ xs. k < length xs) (sym c.deref-2.ensures.value) l) (subst (λ xs. linked c.args.g.now (entry_at xs k) v ≡ true) (sym c.deref-2.ensures.value) link) old) w o y'

pub returns-in-Some-first_near : goal.returns-in-Some-first_near
returns-in-Some-first_near c =
    let D = mark_of c.args.old.now in
    let K = mark_of c.args.part.now.inside.items in
    if_ok_two c.cross.result (λ (e : Vec ℕ Global). IsEar c.args.g.now D e.items) (λ (e : Vec ℕ Global). AllWithin (λ v. mark_of c.deref-in-Some-first_near.result.now v ≡ true) e.items 1 (length e.items - 1))
    (λ (e : Vec ℕ Global). (R C : ℕ → Bool) (u : ℕ) → IsTurn c.args.g.now D c.args.ear.items K R C u → IsBetter c.args.g.now D R C e.items)
    (λ e ear through R C u t. is_better c.args.g.now D R C K c.in-Some.first.node e.items
    (offer_one c.args.g.now c.nodes-none.ensures.graph c.requires.setting.three D (λ v h. subst (λ n. v < n) c.requires.setting.size (marked_below c.args.old.now v h)) c.requires.setting.two c.args.ear.items c.requires.ear
    K R C u t c.in-Some.first.node c.in-Some-first_near.field-0.node c.in-Some.ensures.marked c.in-Some-first_near.ensures.marked c.in-Some-first_near.ensures.differs
    (touch_read c.args.g.now K c.args.part.now.order.items _ _ _ c.requires.order.2.only c.deref.ensures.value c.in-Some.ensures.place c.in-Some.ensures.link)
    (touch_read c.args.g.now K c.args.part.now.order.items _ _ _ c.requires.order.2.only c.deref-2.ensures.value c.in-Some-first_near.ensures.place c.in-Some-first_near.ensures.link))
    ear (subst (λ z. AllWithin (λ v. mark_of z v ≡ true) e.items 1 (length e.items - 1)) c.deref-in-Some-first_near.ensures.value through))
    c.cross.ensures.ear c.cross.ensures.through

pub returns-in-None : goal.returns-in-None
returns-in-None c =
    let g = c.args.g.now in
    let D = mark_of c.args.old.now in
    IfOk-weaker c.to_end.result (λ (e : Vec ℕ Global). (R C : ℕ → Bool) (u : ℕ) → IsTurn g D c.args.ear.items (mark_of c.deref-in-None.result.now) R C u → IsBetter g D R C e.items)
    (λ (e : Vec ℕ Global). (R C : ℕ → Bool) (u : ℕ) → IsTurn g D c.args.ear.items (mark_of c.args.part.now.inside.items) R C u → IsBetter g D R C e.items)
    (λ e f R C u t. f R C u (subst (λ z. IsTurn g D c.args.ear.items (mark_of z) R C u) (sym c.deref-in-None.ensures.value) t))
    c.to_end.ensures

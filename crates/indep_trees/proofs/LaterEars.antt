-- The order at its start, and why each node between the ends of an ear has a neighbour in no ear so far.
use Rattle.std.proofs.Common.{◌≡◌, ℕ, ◌-◌, List, [], ◌∷◌, Bool, true, false, length, sym, subst, ap, ◌∙◌, inl, inr, arith}
use Rattle.std.proofs.lemmas.Bool.{not-true}
use Rattle.tomo_base.specs.Network.{Network, linked}
use Rattle.tomo_base.specs.Sets.{complement, touches}
use Rattle.tomo_base.specs.Search.{entry_at}
use Rattle.tomo_base.proofs.Ascending.{has-at}
use Rattle.tomo_base.proofs.Links.{linked_comm}
use Rattle.ear_order.specs.Ears.{with_ear, ends_of}
use Rattle.ear_order.specs.Turns.{between, ContinuesWith}
use Rattle.ear_order.proofs.Spreading.{touch_gives}
use Rattle.ear_order.proofs.Places.{run_gives}
use Rattle.ear_order.proofs.Starting.{one_end}
use Rattle.indep_trees.specs.Placing.{Numbered}

-- a node between the ends other than u has a neighbour in no ear so far
pub leads : (g : Network) (u : ℕ) (D : ℕ → Bool) (e : List ℕ) → ContinuesWith g u D e → (v : ℕ) → between e v ≡ true → (v ≡ u → ⊥) → (w : ℕ) × (linked g v w ≡ true) × (with_ear D e w ≡ false)
leads g u D e (inl goes) v h apart =
    let i = run_gives (entry_at e) 1 (length e - 1) v h in
    let w = touch_gives g (complement (with_ear D e)) v (subst (λ z. touches g (complement (with_ear D e)) z ≡ true) i.3 (goes.touched i.0 0 i.1 i.2)) in
    (w.0, linked_comm g w.0 v w.2, not-true (with_ear D e w.0) w.1)
leads g u D e (inr over) v h apart =
    let i = run_gives (entry_at e) 1 (length e - 1) v h in
    let one : i.0 ≡ 1 = omega (arith, i.1, i.2, over.three) in
    absurd (apart (sym i.3 ∙ (ap (entry_at e) one ∙ over.between)))

-- before the first ear the order is r, t
pub numbered_none : (g : Network) (r t u : ℕ) (low high ear : ℕ → ℕ) → (r ≡ t → ⊥) → ((v : ℕ) → ear v ≡ 0) → Numbered g r t u (ends_of r t) (r ∷ t ∷ []) low high ear 1
numbered_none g r t u low high ear differ none = record {
  distinct = (λ s. elim s [ inl a ↦ a | inr a ↦ differ a.0 ], (λ s. s, tt));
  has = λ v h. elim (one_end r t v h) [
    | inl e ↦ inr (e, tt)
    | inr e ↦ inl (inr (e, tt))
  ];
  only = λ v s. elim s [
    | inl a ↦ elim a [ inl b ↦ absurd b | inr b ↦ subst (λ z. ends_of r t z ≡ true) (sym b.0) (has-at (r ∷ t ∷ []) 1 0 (omega arith)) ]
    | inr a ↦ subst (λ z. ends_of r t z ≡ true) (sym a.0) (has-at (r ∷ t ∷ []) 0 0 (omega arith))
  ];
  ear_below = λ v h. omega (arith, none v);
  placed = λ v h vr vt vu. absurd (elim (one_end r t v h) [ inl e ↦ vr e | inr e ↦ vt e ]);
}

-- the numbers stand for any set with the same nodes
pub numbered_same : (g : Network) (r t u : ℕ) (D E : ℕ → Bool) (order : List ℕ) (low high ear : ℕ → ℕ) (k : ℕ) → ((v : ℕ) → D v ≡ E v) → Numbered g r t u D order low high ear k → Numbered g r t u E order low high ear k
numbered_same g r t u D E order low high ear k same a = record {
  distinct = a.distinct;
  has = λ v h. a.has v (same v ∙ h);
  only = λ v s. sym (same v) ∙ a.only v s;
  ear_below = λ v h. a.ear_below v (same v ∙ h);
  placed = λ v h vr vt vu. let p = a.placed v (same v ∙ h) vr vt vu in record {
    low_link = p.low_link;
    high_link = p.high_link;
    low_before = p.low_before;
    high_after = p.high_after;
    low_ear = p.low_ear;
    high_ear = p.high_ear;
    later = (p.later.0, p.later.1, elim p.later.2 [ inl out ↦ inl (sym (same p.later.0) ∙ out) | inr on ↦ inr (sym (same p.later.0) ∙ on.0, on.1) ]);
  };
}

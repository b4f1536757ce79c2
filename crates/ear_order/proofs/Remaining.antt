-- The first candidate and the last ear: what is left touches two old nodes.
use Rattle.std.proofs.Common.{◌≡◌, ◌⊎◌, ℕ, ◌<◌, Bool, true, false, ◌==◌, List, [], ◌∷◌, length, set, All, get_or-set_same, get_or-set_other, refl, sym, subst, ap, ◌∙◌, inl, inr, arith}
use Rattle.std.proofs.lemmas.Bool.{cases_Bool, cases_eq, both_ways, eq-eqb, ne_eqb, eqb-true, or_left, or_right, false_from_ne_true, not-true, not_from_false}
use Rattle.tomo_base.specs.Network.{Network, linked, IsGraph}
use Rattle.tomo_base.specs.Sets.{has}
use Rattle.tomo_base.specs.Walks.{IsConnectedIn}
use Rattle.tomo_base.specs.Search.{mark_of, entry_at}
use Rattle.tomo_base.proofs.Ascending.{All-from_has, place_in}
use Rattle.tomo_base.proofs.Links.{linked_comm}
use Rattle.ear_order.specs.Ears.{IsEar, IsLast}
use Rattle.ear_order.specs.Crossing.{Crosses}
use Rattle.ear_order.specs.Turns.{IsLeft, AreLeft, Touches, IsFreePart}
use Rattle.ear_order.proofs.Spreading.{touch_gives, off}
use Rattle.ear_order.proofs.Outer.{another, three_beside}
use Rattle.ear_order.proofs.Zones.{two_ends}
use Rattle.tomo_base.proofs.Marks.{marked_below}

module _ (g : Network) (graph : IsGraph g) (old : List Bool) (u : ℕ) (left : IsLeft g old u) where
  old_small : (v : ℕ) → mark_of old v ≡ true → v < g.nodes
  old_small v h = subst (λ n. v < n) left.size (marked_below old v h)

  pub not_u : (v : ℕ) → mark_of old v ≡ true → v ≡ u → ⊥
  not_u v h e = both_ways (mark_of old u) left.third (subst (λ w. mark_of old w ≡ true) e h)

  -- an old node other than a
  other_old : (a : ℕ) → (s : ℕ) × (mark_of old s ≡ true) × (s ≡ a → ⊥)
  other_old a =
      let two = left.two in
      elim (cases_eq two.0 a) [ inl same ↦ (two.1, two.3, λ e. two.4 (same ∙ sym e)) | inr apart ↦ (two.0, two.2, apart) ]

  -- where u alone is left, it has an old neighbour other than a
  pub near_last : ((v : ℕ) → v < g.nodes → mark_of old v ≡ false → v ≡ u) → (a : ℕ) → (a ≡ u → ⊥) → (w : ℕ) × (linked g u w ≡ true) × (mark_of old w ≡ true) × (w ≡ a → ⊥)
  near_last alone a apart =
      let s = other_old a in
      let w = another g graph left.three (λ v. v == u) u (eq-eqb u u refl) (λ v h. subst (λ k. k < g.nodes) (sym (eqb-true v u h)) left.node) a a s.0
      (ne_eqb a u apart) (ne_eqb a u apart) (old_small s.0 s.1) (ne_eqb s.0 u (not_u s.0 s.1)) s.2 s.2 in
      let v = touch_gives g (λ v. v == u) w.0 (w.1).2 in (
        w.0,
        subst (λ k. linked g k w.0 ≡ true) (eqb-true v.0 u v.1) v.2,
        elim (cases_Bool (mark_of old w.0)) [ inl y ↦ y | inr n ↦ absurd (both_ways (w.0 == u) (w.1).1 (eq-eqb w.0 u (alone w.0 (w.1).0 n))) ],
        w.2,
      )

  -- over u from one old neighbour to another
  pub over_last : (f h : ℕ) → linked g u f ≡ true → mark_of old f ≡ true → linked g u h ≡ true → mark_of old h ≡ true → (h ≡ f → ⊥) → IsEar g (mark_of old) (f ∷ u ∷ h ∷ [])
  unfolding has
  over_last f h lf of' lh oh differ = record {
    three = omega arith;
    different = (rw (ne_eqb u f (λ e. not_u f of' (sym e)), ne_eqb h f differ) refl, (rw (ne_eqb h u (not_u h oh)) refl, (refl, tt)));
    linked = (linked_comm g u f lf, (lh, tt));
    ends = (of', oh);
    fresh = λ k d low high.
        let one : k ≡ 1 = omega (arith, low, high) in
        rw one left.third;
  }

  -- which is the last ear
  pub is_last : ((v : ℕ) → v < g.nodes → mark_of old v ≡ false → v ≡ u) → (f h : ℕ) → IsLast g u (mark_of old) (f ∷ u ∷ h ∷ [])
  unfolding has
  is_last alone f h = record {
    all = λ v l. elim (cases_Bool (mark_of old v)) [
      | inl y ↦ or_left (mark_of old v) (has (f ∷ u ∷ h ∷ []) v) y
      | inr n ↦ or_right (mark_of old v) (has (f ∷ u ∷ h ∷ []) v) (or_right (f == v) (has (u ∷ h ∷ []) v) (or_left (u == v) (has (h ∷ []) v) (eq-eqb u v (sym (alone v l n)))))
    ];
    three = refl;
    between = refl;
  }

  -- a set of nodes that are left, closed but for u
  module _ (K : ℕ → Bool) (x : ℕ) (some : K x ≡ true) (new : (v : ℕ) → K v ≡ true → (v < g.nodes) × (mark_of old v ≡ false) × (v ≡ u → ⊥))
      (closed : (v w : ℕ) → K v ≡ true → linked g v w ≡ true → w < g.nodes → mark_of old w ≡ false → (w ≡ u → ⊥) → K w ≡ true) where
    old_or_u : (w : ℕ) → w < g.nodes → K w ≡ false → Touches g K w → (mark_of old w ≡ true) ⊎ (w ≡ u)
    old_or_u w l out v = elim (cases_Bool (mark_of old w)) [
      | inl y ↦ inl y
      | inr n ↦ elim (cases_eq w u) [ inl e ↦ inr e | inr apart ↦ absurd (both_ways (K w) out (closed v.0 w v.1 v.2 l n apart)) ]
    ]

    old_out : (v : ℕ) → mark_of old v ≡ true → K v ≡ false
    old_out v h = off (K v) (mark_of old v) (λ k. (new v k).1) h

    -- two old nodes touch it
    pub two_near : (a : ℕ) × (b : ℕ) × (mark_of old a ≡ true) × (mark_of old b ≡ true) × (a ≡ b → ⊥) × Touches g K a × Touches g K b
    two_near =
        let two = left.two in
        let t = three_beside g graph left.three K x some (λ v k. (new v k).0) two.0 two.1 u (old_small two.0 two.2) (old_small two.1 two.3) left.node
        (old_out two.0 two.2) (old_out two.1 two.3) (false_from_ne_true (K u) (λ k. (new u k).2 refl)) two.4 (not_u two.0 two.2) (not_u two.1 two.3) in
        let a = touch_gives g K t.0 (t.3).2 in
        let b = touch_gives g K t.1 (t.4).2 in
        let c = touch_gives g K t.2 (t.5).2 in
        of_three t.0 t.1 t.2 a (old_or_u t.0 (t.3).0 (t.3).1 a) b (old_or_u t.1 (t.4).0 (t.4).1 b) c (old_or_u t.2 (t.5).0 (t.5).1 c) t.6 t.7 t.8
      where
        of_three : (a b c : ℕ) → Touches g K a → (mark_of old a ≡ true) ⊎ (a ≡ u) → Touches g K b → (mark_of old b ≡ true) ⊎ (b ≡ u) → Touches g K c → (mark_of old c ≡ true) ⊎ (c ≡ u)
            → (b ≡ a → ⊥) → (c ≡ a → ⊥) → (c ≡ b → ⊥) → (a : ℕ) × (b : ℕ) × (mark_of old a ≡ true) × (mark_of old b ≡ true) × (a ≡ b → ⊥) × Touches g K a × Touches g K b
        of_three a b c ya (inl oa) yb (inl ob) yc kc ba ca cb = (a, b, oa, ob, λ e. ba (sym e), ya, yb)
        of_three a b c ya (inl oa) yb (inr eb) yc (inl oc) ba ca cb = (a, c, oa, oc, λ e. ca (sym e), ya, yc)
        of_three a b c ya (inl oa) yb (inr eb) yc (inr ec) ba ca cb = absurd (cb (ec ∙ sym eb))
        of_three a b c ya (inr ea) yb (inl ob) yc (inl oc) ba ca cb = (b, c, ob, oc, λ e. cb (sym e), yb, yc)
        of_three a b c ya (inr ea) yb (inl ob) yc (inr ec) ba ca cb = absurd (ca (ec ∙ sym ea))
        of_three a b c ya (inr ea) yb (inr eb) yc kc ba ca cb = absurd (ba (eb ∙ sym ea))

    -- so from each old node that touches it a path crosses
    pub crosses_from : IsConnectedIn g K → (f : ℕ) → mark_of old f ≡ true → Touches g K f → Crosses g (mark_of old) K f
    crosses_from connected f of' yf =
        let t = two_near in
        elim (cases_eq t.0 f) [
          | inl same ↦ two_ends g (mark_of old) K K (λ i. i) 0 connected (λ v k. (new v k).0) (λ v k. k) f t.1 yf.0 (t.6).0 (λ e. t.4 (same ∙ sym e)) t.3 yf.1 (linked_comm g yf.0 f yf.2) (t.6).1 (t.6).2
          | inr apart ↦ two_ends g (mark_of old) K K (λ i. i) 0 connected (λ v k. (new v k).0) (λ v k. k) f t.0 yf.0 (t.5).0 apart t.2 yf.1 (linked_comm g yf.0 f yf.2) (t.5).1 (t.5).2
        ]

  -- the part of another node that is left, without u
  module _ (rest : List Bool) (are : AreLeft old rest) (free : List Bool) (is : free ≡ set rest u false) (x : ℕ) (order : List ℕ) (K : ℕ → Bool) (p : IsFreePart g (mark_of free) x order K) where
    part_new : (v : ℕ) → K v ≡ true → (v < g.nodes) × (mark_of old v ≡ false) × (v ≡ u → ⊥)
    part_new v k =
        let at : mark_of (set rest u false) v ≡ true = ap (λ xs. mark_of xs v) (sym is) ∙ p.within v k in
        let size : length rest ≡ g.nodes = are.size ∙ left.size in
        let apart : v ≡ u → ⊥ = λ same. both_ways (mark_of (set rest u false) u) (get_or-set_same rest u false false (omega (arith, size, left.node))) (subst (λ z. mark_of (set rest u false) z ≡ true) same at) in
        let in_rest : mark_of rest v ≡ true = sym (get_or-set_other rest u v false false apart) ∙ at in
        let small : v < g.nodes = omega (arith, marked_below rest v in_rest, size) in
        (small, not-true (mark_of old v) (sym (are.marks v (omega (arith, small, left.size))) ∙ in_rest), apart)

    part_shut : (v w : ℕ) → K v ≡ true → linked g v w ≡ true → w < g.nodes → mark_of old w ≡ false → (w ≡ u → ⊥) → K w ≡ true
    part_shut v w k l small new apart = p.closed v w k l (ap (λ xs. mark_of xs w) is ∙ (get_or-set_other rest u w false false apart
        ∙ (are.marks w (omega (arith, small, left.size)) ∙ not_from_false (mark_of old w) new)))

    -- it leaves u alone, and consists of nodes
    pub part_off_u : K u ≡ false
    part_off_u = false_from_ne_true (K u) (λ k. (part_new u k).2 refl)

    pub part_off_old : (v : ℕ) → K v ≡ true → mark_of old v ≡ false
    part_off_old v k = (part_new v k).1

    pub part_below : All (λ v. v < g.nodes) order
    part_below = All-from_has (λ v. v < g.nodes) order (λ v h. let k = place_in order v h in (part_new v (subst (λ z. K z ≡ true) k.2 (p.only k.0 k.1))).0)

    -- from an old node next to it a path crosses
    pub part_crosses : (k f : ℕ) → k < length order → linked g (entry_at order k) f ≡ true → mark_of old f ≡ true → Crosses g (mark_of old) K f
    part_crosses k f l link of' = crosses_from K x p.holds part_new part_shut p.connected f of' (entry_at order k, p.only k l, link)

    -- and there is one
    pub part_touched : (n : ℕ) → n ≡ g.nodes → ((k w : ℕ) → k < length order → linked g (entry_at order k) w ≡ true → mark_of old w ≡ true → w ≡ n) → ⊥
    part_touched n size none =
        let t = two_near K x p.holds part_new part_shut in
        let k = place_in order (t.5).0 (p.listed (t.5).0 (t.5).1) in
        let same : t.0 ≡ n = none k.0 t.0 k.1 (subst (λ z. linked g z t.0 ≡ true) (sym k.2) (t.5).2) t.2 in
        omega (arith, same, size, old_small t.0 t.2)

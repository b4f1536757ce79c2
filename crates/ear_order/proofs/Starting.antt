-- The first ear of an order.
use Rattle.std.proofs.Common.{◌≡◌, ◌≢◌, ◌⊎◌, ℕ, ◌-◌, ◌<◌, ◌≤◌, Bool, true, false, ◌||◌, ◌==◌, List, [], ◌∷◌, length, set, replicate, reverse, get_or-set_same, get_or-set_other, length-set, refl, sym, subst, ap, ap₂, ◌∙◌, inl, inr, arith}
use Rattle.std.proofs.lemmas.Bool.{cases_Bool, cases_eq, both_ways, or_cases, or_left, or_right, eqb-true, eq-eqb}
use Rattle.std.proofs.lemmas.List.{length-replicate, length-reverse}
use Rattle.tomo_base.specs.Limits.{graph_node_limit}
use Rattle.tomo_base.specs.Network.{Network, linked, IsGraph}
use Rattle.tomo_base.specs.Sets.{has, complement}
use Rattle.tomo_base.specs.Cuts.{IsThreeConnected}
use Rattle.tomo_base.specs.Search.{mark_of, entry_at}
use Rattle.tomo_base.proofs.Links.{linked_below}
use Rattle.tomo_base.proofs.Ascending.{place_in, has-at}
use Rattle.ear_order.specs.Ears.{IsEar, IsLast, with_ear, ends_of, AreEnds, IsOrder, LeavesConnected}
use Rattle.ear_order.specs.Turns.{between, IsLeft, IsEither, ContinuesWith}
use Rattle.ear_order.proofs.Spreading.{connected_same}
use Rattle.ear_order.proofs.Outer.{pair, connected_without}
use Rattle.ear_order.proofs.Places.{run_gives}
use Rattle.ear_order.proofs.Lists.{ear_at, has_between}
use Rattle.tomo_base.proofs.Marks.{bare_mark}
use Rattle.ear_order.proofs.Turned.{entry_reverse, reverse_between}
use Rattle.tomo_base.proofs.Lists.{same_test}
use Rattle.ear_order.proofs.Spots.{either_ear}
use Rattle.ear_order.proofs.Ordering.{ear_same, goes_same, ends_differ, no_ears}

-- one of two nodes
pub one_end : (r t v : ℕ) → ends_of r t v ≡ true → (v ≡ r) ⊎ (v ≡ t)
unfolding has
one_end r t v h = elim (or_cases (r == v) ((t == v) || false) h) [
  | inl e ↦ inl (sym (eqb-true r v e))
  | inr more ↦ elim (or_cases (t == v) false more) [ inl e ↦ inr (sym (eqb-true t v e)) | inr none ↦ absurd (both_ways false refl none) ]
]

first_end : (r t : ℕ) → ends_of r t r ≡ true
unfolding has
first_end r t = or_left (r == r) ((t == r) || false) (eq-eqb r r refl)

last_end : (r t : ℕ) → ends_of r t t ≡ true
unfolding has
last_end r t = or_right (r == t) ((t == t) || false) (or_left (t == t) false (eq-eqb t t refl))

-- two marks
pub marks_two : (n r t v : ℕ) → r < n → t < n → mark_of (set (set (replicate n false) r true) t true) v ≡ ends_of r t v
marks_two n r t v lr lt =
    let size : length (replicate n false) ≡ n = length-replicate n false in
    let size' : length (set (replicate n false) r true) ≡ n = length-set (replicate n false) r true ∙ size in
    elim (cases_eq v t) [
      | inl same ↦ (ap (mark_of (set (set (replicate n false) r true) t true)) same ∙ get_or-set_same (set (replicate n false) r true) t true false (omega (arith, lt, size'))) ∙ sym (ap (ends_of r t) same ∙ last_end r t)
      | inr other ↦ get_or-set_other (set (replicate n false) r true) t v true false other ∙ elim (cases_eq v r) [
        | inl same ↦ (ap (mark_of (set (replicate n false) r true)) same ∙ get_or-set_same (replicate n false) r true false (omega (arith, lr, size))) ∙ sym (ap (ends_of r t) same ∙ first_end r t)
        | inr apart ↦ (get_or-set_other (replicate n false) r v true false apart ∙ bare_mark n v) ∙ sym (neither r t v apart other)
      ]
    ]
  where
    neither : (r t v : ℕ) → (v ≡ r → ⊥) → (v ≡ t → ⊥) → ends_of r t v ≡ false
    neither r t v vr vt = elim (cases_Bool (ends_of r t v)) [
      | inl y ↦ absurd (elim (one_end r t v y) [ inl e ↦ vr e | inr e ↦ vt e ])
      | inr n ↦ n
    ]

-- what a copy of such marks says
pub marks_first : (g : Network) → IsGraph g → (n r t : ℕ) → n ≡ g.nodes → linked g r t ≡ true → (bare xs : List Bool) → bare ≡ replicate n false → xs ≡ set (set bare r true) t true
    → ((v : ℕ) → mark_of xs v ≡ ends_of r t v) × (length xs ≡ g.nodes)
marks_first g graph n r t size link bare xs none is =
    let ends = linked_below g.nodes g.links r t graph link in
    let marks : xs ≡ set (set (replicate n false) r true) t true = is ∙ ap (λ ys. set (set ys r true) t true) none in
    let long : length (set (set (replicate n false) r true) t true) ≡ n = length-set (set (replicate n false) r true) t true ∙ (length-set (replicate n false) r true ∙ length-replicate n false) in
    (λ v. ap (λ ys. mark_of ys v) marks ∙ marks_two n r t v (omega (arith, ends.0, size)) (omega (arith, ends.1, size)), ap (λ ys. length ys) marks ∙ (long ∙ size))

module _ (g : Network) (graph : IsGraph g) (three : IsThreeConnected g) (r t u : ℕ) (ends : AreEnds g r t u) (old : List Bool) (is : (v : ℕ) → mark_of old v ≡ ends_of r t v) where
  -- what is left before the first ear
  pub left_first : length old ≡ g.nodes → IsLeft g old u
  left_first size = record {
    size = size;
    three = three;
    two = (r, t, is r ∙ first_end r t, is t ∙ last_end r t, ends_differ g r t u graph ends);
    connected = connected_same g graph (complement (pair r t)) (complement (mark_of old)) (λ v l. ap (λ b. complement (λ w. b) v) (same v)) (connected_without g three r t);
    node = ends.node;
    third = is u ∙ out;
  }
    where
      same : (v : ℕ) → pair r t v ≡ mark_of old v
      same v = same_test (pair r t v) (mark_of old v)
          (λ h. is v ∙ elim (or_cases (v == r) (v == t) h) [
            | inl e ↦ subst (λ z. ends_of r t z ≡ true) (sym (eqb-true v r e)) (first_end r t)
            | inr e ↦ subst (λ z. ends_of r t z ≡ true) (sym (eqb-true v t e)) (last_end r t)
          ])
          (λ h. elim (one_end r t v (sym (is v) ∙ h)) [ inl e ↦ or_left (v == r) (v == t) (eq-eqb v r e) | inr e ↦ or_right (v == r) (v == t) (eq-eqb v t e) ])

      out : ends_of r t u ≡ false
      out = elim (cases_Bool (ends_of r t u)) [
        | inl y ↦ absurd (elim (one_end r t u y) [ inl e ↦ ends.not_first e | inr e ↦ ends.not_last e ])
        | inr n ↦ n
      ]

  -- among four nodes the first ear is not the last
  not_last : (e : List ℕ) → IsEar g (mark_of old) e → IsLast g u (mark_of old) e → ⊥
  not_last e ear last =
      let four = three.four in
      let a0 : (0 ≡ r) ⊎ ((0 ≡ t) ⊎ (0 ≡ u)) = known 0 (omega (arith, four)) in
      let a1 : (1 ≡ r) ⊎ ((1 ≡ t) ⊎ (1 ≡ u)) = known 1 (omega (arith, four)) in
      let a2 : (2 ≡ r) ⊎ ((2 ≡ t) ⊎ (2 ≡ u)) = known 2 (omega (arith, four)) in
      let a3 : (3 ≡ r) ⊎ ((3 ≡ t) ⊎ (3 ≡ u)) = known 3 (omega (arith, four)) in
      pigeons a0 a1 a2 a3
    where
      old_end : (v : ℕ) → mark_of old v ≡ true → (v ≡ r) ⊎ ((v ≡ t) ⊎ (v ≡ u))
      old_end v h = elim (one_end r t v (sym (is v) ∙ h)) [ inl e ↦ inl e | inr e ↦ inr (inl e) ]

      known : (v : ℕ) → v < g.nodes → (v ≡ r) ⊎ ((v ≡ t) ⊎ (v ≡ u))
      known v l = elim (or_cases (mark_of old v) (has e v) (last.all v l)) [
        | inl o ↦ old_end v o
        | inr h ↦ elim (has_between g (mark_of old) e ear v h) [
          | inl o ↦ old_end v o
          | inr m ↦
              let i = run_gives (entry_at e) 1 (length e - 1) v m in
              let one : i.0 ≡ 1 = omega (arith, i.1, i.2, last.three) in
              inr (inr (sym i.3 ∙ (ap (entry_at e) one ∙ last.between)))
        ]
      ]

      pigeons : (0 ≡ r) ⊎ ((0 ≡ t) ⊎ (0 ≡ u)) → (1 ≡ r) ⊎ ((1 ≡ t) ⊎ (1 ≡ u)) → (2 ≡ r) ⊎ ((2 ≡ t) ⊎ (2 ≡ u)) → (3 ≡ r) ⊎ ((3 ≡ t) ⊎ (3 ≡ u)) → ⊥
      pigeons a b c d = grind arith

  either_has : (e given : List ℕ) → IsEither e given → (v : ℕ) → has given v ≡ has e v
  either_has e given (inl same) v = ap (λ xs. has xs v) (sym same)
  either_has e given (inr turned) v = reversed given v ∙ ap (λ xs. has xs v) (sym turned)
    where
      reversed : (xs : List ℕ) (v : ℕ) → has xs v ≡ has (reverse xs) v
      reversed xs v = same_test (has xs v) (has (reverse xs) v)
          (λ h.
          let i = place_in xs v h in
          let k : length xs - 1 - (length xs - 1 - i.0) ≡ i.0 = omega (arith, i.1) in
          subst (λ z. has (reverse xs) z ≡ true) (entry_reverse xs (length xs - 1 - i.0) (omega (arith, i.1)) ∙ (ap (entry_at xs) k ∙ i.2)) (has-at (reverse xs) (length xs - 1 - i.0) 0 (omega (arith, i.1, length-reverse xs))))
          (λ h.
          let i = place_in (reverse xs) v h in
          let l : i.0 < length xs = omega (arith, i.1, length-reverse xs) in
          subst (λ z. has xs z ≡ true) (sym (entry_reverse xs i.0 l) ∙ i.2) (has-at xs (length xs - 1 - i.0) 0 (omega (arith, l))))

  either_between : (e given : List ℕ) → IsEither e given → 3 ≤ length given → (v : ℕ) → between e v ≡ true → between given v ≡ true
  either_between e given (inl same) long v h = subst (λ xs. between xs v ≡ true) same h
  either_between e given (inr turned) long v h = sym (reverse_between given long v) ∙ subst (λ xs. between xs v ≡ true) turned h

  -- the order with its first ear, turned so that it does not begin with t
  pub order_first : g.nodes ≤ graph_node_limit → (e given : List ℕ) → IsEar g (mark_of old) given → ContinuesWith g u (mark_of old) given → IsEither e given → t ≢ entry_at e 0 → IsOrder (record { graph = g; r = r; t = t; u = u; list = e ∷ [] })
  order_first few e given ear next either apart =
      let mine : IsEar g (ends_of r t) e = ear_same g (mark_of old) (ends_of r t) e is (either_ear g (mark_of old) e given either ear) in
      let at = ear_at g (ends_of r t) e mine in
      let begins : entry_at e 0 ≡ r = elim (one_end r t (entry_at e 0) at.starts) [ inl y ↦ y | inr y ↦ absurd (apart (sym y)) ] in
      record {
        graph = graph;
        few = few;
        three = three;
        ends = ends;
        order = record {
          begins = begins;
          ends = elim (one_end r t (entry_at e (length e - 1)) at.ends) [
            | inl y ↦ absurd (at.distinct 0 (length e - 1) (omega (arith, mine.three)) (omega arith) (begins ∙ sym y))
            | inr y ↦ y
          ];
          ear = mine;
          goes_on = goes next;
          later = no_ears g u (with_ear (ends_of r t) e);
        };
      }
    where
      goes : ContinuesWith g u (mark_of old) given → LeavesConnected g u (ends_of r t) e
      goes (inl go) = goes_same g graph u (mark_of old) (ends_of r t) given e (λ v. ap₂ ◌||◌ (is v) (either_has e given either v)) (either_between e given either ear.three) go
      goes (inr last) = absurd (not_last given ear last)

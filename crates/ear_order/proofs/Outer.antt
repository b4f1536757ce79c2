-- In a graph that stays connected without any two nodes, a set with three nodes outside it has three outside neighbours.
use Rattle.std.proofs.Common.{◌≡◌, ℕ, ◌+◌, ◌<◌, ◌≤◌, Bool, true, false, not, ◌&&◌, ◌||◌, ◌==◌, refl, sym, subst, ◌∙◌, inl, inr, arith}
use Rattle.std.proofs.lemmas.Bool.{cases_Bool, cases_eq, cases_lt, both_ways, and_from, and_parts, or_from, not_from_false, not-true, eq-eqb, ne_eqb, eqb-true, false_from_ne_true}
use Rattle.tomo_base.specs.Network.{Network, IsGraph}
use Rattle.tomo_base.specs.Sets.{one_if, count, touches, complement}
use Rattle.tomo_base.specs.Cuts.{IsThreeConnected}
use Rattle.tomo_base.specs.Walks.{IsConnectedIn}
use Rattle.tomo_base.proofs.Links.{linked_below}
use Rattle.tomo_base.proofs.Counts.{count_pairs, count-one, count-none, find}
use Rattle.ear_order.proofs.Spreading.{spreads, touch_from}

-- the two nodes a and b
abbrev pub pair : ℕ → ℕ → ℕ → Bool
pair a b v = (v == a) || (v == b)

count-single : (n a : ℕ) → count n (λ v. v == a) ≤ 1
count-single n a = elim (cases_lt a n) [
  | inl lt ↦ (let one : count n (λ v. v == a) ≡ 1 = count-one n (λ v. v == a) a lt (eq-eqb a a refl) (λ v l e. eqb-true v a e) in omega (arith, one))
  | inr ge ↦ (let none : count n (λ v. v == a) ≡ 0 = count-none n (λ v. v == a) (λ v l. ne_eqb v a (λ e. omega (arith, e, l, ge))) in omega (arith, none))
]

-- they are two at most
pub count-pair : (n a b : ℕ) → count n (pair a b) ≤ 2
count-pair n a b =
    let none : count n (λ v. false) ≡ 0 = count-none n (λ v. false) (λ v l. refl) in
    let both : count n (pair a b) + count n (λ v. false) ≤ count n (λ v. v == a) + count n (λ v. v == b) = count_pairs n (λ v. v == a) (λ v. v == b) (pair a b) (λ v. false) (λ v l. at (v == a) (v == b)) in
    omega (arith, none, both, count-single n a, count-single n b)
  where
    at : (p q : Bool) → one_if (p || q) + one_if false ≤ one_if p + one_if q
    at true q = omega arith
    at false q = omega arith

-- so the graph is connected without them
pub connected_without : (g : Network) → IsThreeConnected g → (a b : ℕ) → IsConnectedIn g (complement (pair a b))
connected_without g three a b = three.whole (pair a b) (count-pair g.nodes a b)

module _ (g : Network) (graph : IsGraph g) (three : IsThreeConnected g) (x : ℕ → Bool) (s₀ : ℕ) (has : x s₀ ≡ true) (nodes : (v : ℕ) → x v ≡ true → v < g.nodes) where
  -- w is a node outside the set and touches it
  abbrev pub Beside : ℕ → Type 0
  Beside w = (w < g.nodes) × (x w ≡ false) × (touches g x w ≡ true)

  not_pair : (a b v : ℕ) → (v ≡ a → ⊥) → (v ≡ b → ⊥) → complement (pair a b) v ≡ true
  not_pair a b v va vb = not_from_false (pair a b v) (or_from (v == a) (v == b) (ne_eqb v a va) (ne_eqb v b vb))

  not_pair-left : (a b v : ℕ) → complement (pair a b) v ≡ true → v ≡ a → ⊥
  not_pair-left a b v h e = both_ways (pair a b v) (not-true (pair a b v) h) (rw (eq-eqb v a e) refl)

  not_pair-right : (a b v : ℕ) → complement (pair a b) v ≡ true → v ≡ b → ⊥
  not_pair-right a b v h e = both_ways (pair a b v) (not-true (pair a b v) h) (right (v == a) (v == b) (eq-eqb v b e))
    where
      right : (p q : Bool) → q ≡ true → (p || q) ≡ true
      right true q e = refl
      right false q e = e

  -- a set, with a node outside that is neither a nor b, touches such a node
  pub another : (a b s : ℕ) → x a ≡ false → x b ≡ false → s < g.nodes → x s ≡ false → (s ≡ a → ⊥) → (s ≡ b → ⊥) → (w : ℕ) × Beside w × (w ≡ a → ⊥) × (w ≡ b → ⊥)
  another a b s na nb ls ns sa sb = elim (find g.nodes (λ w. complement (pair a b) w && (not (x w) && touches g x w))) [
    | inl f ↦
        let p = and_parts (complement (pair a b) f.0) (not (x f.0) && touches g x f.0) f.2 in
        let q = and_parts (not (x f.0)) (touches g x f.0) p.1 in
        (f.0, (f.1, not-true (x f.0) q.0, q.1), not_pair-left a b f.0 p.0, not_pair-right a b f.0 p.0)
    | inr none ↦ absurd (both_ways (x s) ns (spreads g (complement (pair a b)) x (connected_without g three a b)
        (λ v w cv xv l cw. elim (cases_Bool (x w)) [
          | inl y ↦ y
          | inr n ↦ absurd (both_ways (complement (pair a b) w && (not (x w) && touches g x w)) (none w (linked_below g.nodes g.links v w graph l).1)
              (and_from (complement (pair a b) w) (not (x w) && touches g x w) cw (and_from (not (x w)) (touches g x w) (not_from_false (x w) n) (touch_from g graph x v w xv l))))
        ])
        s₀ s (nodes s₀ has) ls
        (not_pair a b s₀ (λ e. both_ways (x a) na (subst (λ z. x z ≡ true) e has)) (λ e. both_ways (x b) nb (subst (λ z. x z ≡ true) e has)))
        (not_pair a b s sa sb) has))
  ]

  past : x g.nodes ≡ false
  past = false_from_ne_true (x g.nodes) (λ h. omega (arith, nodes g.nodes h))

  -- with three nodes outside, it touches three nodes outside
  pub three_beside : (p q s : ℕ) → p < g.nodes → q < g.nodes → s < g.nodes → x p ≡ false → x q ≡ false → x s ≡ false → (p ≡ q → ⊥) → (p ≡ s → ⊥) → (q ≡ s → ⊥)
      → (a : ℕ) × (b : ℕ) × (c : ℕ) × Beside a × Beside b × Beside c × (b ≡ a → ⊥) × (c ≡ a → ⊥) × (c ≡ b → ⊥)
  three_beside p q s lp lq ls np nq ns pq ps qs =
      let a = another g.nodes g.nodes p past past lp np (λ e. omega (arith, e, lp)) (λ e. omega (arith, e, lp)) in
      let b = second a.0 (a.1).1 in
      let c = third a.0 b.0 (a.1).1 (b.1).1 in
      (a.0, b.0, c.0, a.1, b.1, c.1, b.2, c.2, c.3)
    where
      second : (a : ℕ) → x a ≡ false → (w : ℕ) × Beside w × (w ≡ a → ⊥) × (w ≡ a → ⊥)
      second a na = elim (cases_eq p a) [
        | inl e ↦ another a a q na na lq nq (λ f. pq (e ∙ sym f)) (λ f. pq (e ∙ sym f))
        | inr f ↦ another a a p na na lp np f f
      ]

      third : (a b : ℕ) → x a ≡ false → x b ≡ false → (w : ℕ) × Beside w × (w ≡ a → ⊥) × (w ≡ b → ⊥)
      third a b na nb = elim (cases_eq p a) [
        | inl e ↦ elim (cases_eq q b) [
          | inl f ↦ another a b s na nb ls ns (λ h. ps (e ∙ sym h)) (λ h. qs (f ∙ sym h))
          | inr f ↦ another a b q na nb lq nq (λ h. pq (e ∙ sym h)) f
        ]
        | inr e ↦ elim (cases_eq p b) [
          | inr f ↦ another a b p na nb lp np e f
          | inl f ↦ elim (cases_eq q a) [
            | inl h ↦ another a b s na nb ls ns (λ k. qs (h ∙ sym k)) (λ k. ps (f ∙ sym k))
            | inr h ↦ another a b q na nb lq nq h (λ k. pq (f ∙ sym k))
          ]
        ]
      ]

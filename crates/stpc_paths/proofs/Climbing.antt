-- The path of a node in a tree: there is one, it is linked, and no node stands in it twice.
use Rattle.std.proofs.Common.{◌≡◌, ℕ, suc, ◌≤◌, ◌==◌, Bool, true, false, List, [], ◌∷◌, length, IsTrue, refl, sym, ap, ap₂, subst, ◌∙◌, inl, inr, arith}
use Rattle.std.proofs.lemmas.Bool.{both_ways, or_cases, eqb-true, false_from_ne_true}
use Rattle.tomo_base.specs.Network.{Network, linked}
use Rattle.tomo_base.specs.Sets.{has}
use Rattle.tomo_base.specs.Walks.{StepsFrom, NoneTwice, end_of}
use Rattle.indep_trees.specs.Trees.{Climbs}

module _ (m : ℕ → Bool) (parent : ℕ → ℕ) where
  -- a node has one path
  pub climb_one : (v : ℕ) (p q : List ℕ) → Climbs m parent v p → Climbs m parent v q → p ≡ q
  climb_one v [] [] c d = refl
  climb_one v [] (w ∷ q) c d = absurd (both_ways (m v) d.0 c)
  climb_one v (w ∷ p) [] c d = absurd (both_ways (m v) c.0 d)
  climb_one v (w ∷ p) (x ∷ q) c d =
      let same : w ≡ x = c.1 ∙ sym d.1 in
      ap₂ (λ y r. y ∷ r) same (climb_one x p q (subst (λ y. Climbs m parent y p) same c.2) d.2)

  -- from each node of a path the rest is its path
  climb_from : (z v : ℕ) (p : List ℕ) → Climbs m parent v p → has (v ∷ p) z ≡ true → (q : List ℕ) × Climbs m parent z q × (length q ≤ length p)
  unfolding has
  climb_from z v [] c h = elim (or_cases (v == z) (has [] z) h) [
    | inl e ↦ ([], subst (λ y. IsTrue (m y)) (eqb-true v z e) c, omega arith)
    | inr e ↦ absurd (both_ways (has [] z) refl e)
  ]
  climb_from z v (w ∷ p) c h = elim (or_cases (v == z) (has (w ∷ p) z) h) [
    | inl e ↦ (w ∷ p, subst (λ y. Climbs m parent y (w ∷ p)) (eqb-true v z e) c, omega arith)
    | inr e ↦ (let k = climb_from z w p c.2 e in (k.0, k.1, omega (arith, k.2)))
  ]

  -- so no node stands in it twice
  pub climb_once : (v : ℕ) (p : List ℕ) → Climbs m parent v p → NoneTwice (v ∷ p)
  unfolding has
  climb_once v [] c = (refl, tt)
  climb_once v (w ∷ p) c = (
    false_from_ne_true (has (w ∷ p) v) (λ h.
        let k = climb_from v w p c.2 h in
        let same : w ∷ p ≡ k.0 = climb_one v (w ∷ p) k.0 c k.1 in
        longer (length p) (length k.0) (ap length same) k.2),
    climb_once w p c.2,
  )
    where
      longer : (a b : ℕ) → suc a ≡ b → b ≤ a → ⊥
      longer a b e h = omega (arith, e, h)

  -- it ends in a monitor
  pub climb_ends : (v : ℕ) (p : List ℕ) → Climbs m parent v p → IsTrue (m (end_of v p))
  climb_ends v [] c = c
  climb_ends v (w ∷ p) c = climb_ends w p c.2

  -- each of its nodes is linked to the next, where parents are
  pub climb_steps : (g : Network) → ((v : ℕ) → m v ≡ false → IsTrue (linked g v (parent v))) → (v : ℕ) (p : List ℕ) → Climbs m parent v p → StepsFrom g v p
  climb_steps g joined v [] c = tt
  climb_steps g joined v (w ∷ p) c = (subst (λ x. IsTrue (linked g v x)) (sym c.1) (joined v c.0), climb_steps g joined w p c.2)

  -- what parents keep holds of each of its nodes
  pub climb_keeps : (P : ℕ → Type 0) → ((v : ℕ) → m v ≡ false → P v → P (parent v)) → (v : ℕ) (p : List ℕ) → Climbs m parent v p → P v → (z : ℕ) → has (v ∷ p) z ≡ true → P z
  unfolding has
  climb_keeps P kept v [] c here z h = elim (or_cases (v == z) (has [] z) h) [ inl e ↦ subst P (eqb-true v z e) here | inr e ↦ absurd (both_ways (has [] z) refl e) ]
  climb_keeps P kept v (w ∷ p) c here z h = elim (or_cases (v == z) (has (w ∷ p) z) h) [
    | inl e ↦ subst P (eqb-true v z e) here
    | inr e ↦ climb_keeps P kept w p c.2 (subst P (sym c.1) (kept v c.0 here)) z e
  ]

-- a path for other monitors, where those agree on its nodes
pub climb_same : (m k : ℕ → Bool) (parent : ℕ → ℕ) (P : ℕ → Type 0) → ((v : ℕ) → P v → k v ≡ m v) → ((v : ℕ) → m v ≡ false → P v → P (parent v))
    → (v : ℕ) (p : List ℕ) → P v → Climbs m parent v p → Climbs k parent v p
climb_same m k parent P agree kept v [] here c = agree v here ∙ c
climb_same m k parent P agree kept v (w ∷ p) here c = (agree v here ∙ c.0, c.1, climb_same m k parent P agree kept w p (subst P (sym c.1) (kept v c.0 here)) c.2)

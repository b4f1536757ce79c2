-- Three trees in which the paths of a node share that node alone: what they give, over any test for monitors.
use Rattle.std.proofs.Common.{◌≡◌, ◌≢◌, ℕ, zero, suc, ◌<◌, ◌⊎◌, Bool, true, false, List, [], ◌∷◌, length, IsTrue, refl, sym, ap, subst, ◌∙◌, inl, inr, arith}
use Rattle.std.proofs.lemmas.Bool.{both_ways, cases_Bool, cases_eq}
use Rattle.tomo_base.specs.Network.{Network, linked}
use Rattle.tomo_base.specs.Sets.{has, Apart}
use Rattle.tomo_base.proofs.Members.{has_first}
use Rattle.indep_trees.specs.Trees.{Climbs}
use Rattle.stpc_paths.specs.Roots.{after, NameEachOther, Owns}
use Rattle.stpc_paths.proofs.Climbing.{climb_one}

-- the nodes of a node's path in each tree, after the node
pub record Forest (g : Network) (m : ℕ → Bool) (number : ℕ → ℕ) (parent : ℕ → ℕ → ℕ) : Type 0 where
  pub trunk : ℕ → ℕ → List ℕ
  pub climbs : (i v : ℕ) → i < 3 → Climbs m (parent i) v (trunk i v)
  pub joined : (i v : ℕ) → i < 3 → m v ≡ false → IsTrue (linked g v (parent i v))
  pub apart : (i j v : ℕ) → i < 3 → j < 3 → i ≢ j → m v ≡ false → Apart (has (trunk i v)) (has (trunk j v))
  pub falls : (v : ℕ) → m v ≡ false → number (parent 0 v) < number v
  pub rises : (v : ℕ) → m v ≡ false → number v < number (parent 1 v)

-- ---- the circle of trees

-- a number below three
below_three : (P : ℕ → Type 0) → P 0 → P 1 → P 2 → (i : ℕ) → i < 3 → P i
below_three P a b c zero l = a
below_three P a b c (suc zero) l = b
below_three P a b c (suc (suc zero)) l = c
below_three P a b c (suc (suc (suc i))) l = absurd (omega (arith, l))

-- the next tree is one of the three
pub after_below : (i : ℕ) → i < 3 → after i < 3
after_below = below_three (λ i. after i < 3) (omega arith) (omega arith) (omega arith)

-- and another
pub after_other : (i : ℕ) → i < 3 → i ≢ after i
after_other = below_three (λ i. i ≢ after i) (λ e. omega (arith, e)) (λ e. omega (arith, e)) (λ e. omega (arith, e))

-- so is the one after that
pub twice_other : (i : ℕ) → i < 3 → i ≢ after (after i)
twice_other = below_three (λ i. i ≢ after (after i)) (λ e. omega (arith, e)) (λ e. omega (arith, e)) (λ e. omega (arith, e))

-- after three trees comes the first again
pub thrice : (i : ℕ) → i < 3 → after (after (after i)) ≡ i
thrice = below_three (λ i. after (after (after i)) ≡ i) refl refl refl

-- two trees are the same, or one comes after the other
pub three_ways : (i j : ℕ) → i < 3 → j < 3 → (i ≡ j) ⊎ ((j ≡ after i) ⊎ (i ≡ after j))
three_ways i j l h = below_three (λ i. (j : ℕ) → j < 3 → (i ≡ j) ⊎ ((j ≡ after i) ⊎ (i ≡ after j)))
    (below_three (λ j. (0 ≡ j) ⊎ ((j ≡ after 0) ⊎ (0 ≡ after j))) (inl refl) (inr (inl refl)) (inr (inr refl)))
    (below_three (λ j. (1 ≡ j) ⊎ ((j ≡ after 1) ⊎ (1 ≡ after j))) (inr (inr refl)) (inl refl) (inr (inl refl)))
    (below_three (λ j. (2 ≡ j) ⊎ ((j ≡ after 2) ⊎ (2 ≡ after j))) (inr (inl refl)) (inr (inr refl)) (inl refl))
    i l j h

module _ (g : Network) (m : ℕ → Bool) (number : ℕ → ℕ) (parent : ℕ → ℕ → ℕ) (f : Forest g m number parent) where
  -- ---- parents

  -- the path of a node goes on from its parent
  pub trunk_step : (i v : ℕ) → i < 3 → m v ≡ false → f.trunk i v ≡ parent i v ∷ f.trunk i (parent i v)
  trunk_step i v l free = climb_one m (parent i) v (f.trunk i v) (parent i v ∷ f.trunk i (parent i v)) (f.climbs i v l) (free, refl, f.climbs i (parent i v) l)

  -- a monitor's path is the monitor alone
  pub trunk_ends : (i v : ℕ) → i < 3 → m v ≡ true → f.trunk i v ≡ []
  trunk_ends i v l stops = climb_one m (parent i) v (f.trunk i v) [] (f.climbs i v l) stops

  -- the parent is on the path
  parent_on : (i v : ℕ) → i < 3 → m v ≡ false → has (f.trunk i v) (parent i v) ≡ true
  parent_on i v l free = rw (trunk_step i v l free) (has_first (parent i v) (f.trunk i (parent i v)))

  -- a node has different parents in different trees
  pub parents_differ : (i j v : ℕ) → i < 3 → j < 3 → i ≢ j → m v ≡ false → parent i v ≢ parent j v
  parents_differ i j v l h ne free same = f.apart i j v l h ne free (parent i v) (parent_on i v l free) (subst (λ x. has (f.trunk j v) x ≡ true) (sym same) (parent_on j v h free))

  -- two nodes do not name each other in one tree
  pub not_mutual : (i v : ℕ) → i < 3 → m v ≡ false → m (parent i v) ≡ false → parent i (parent i v) ≢ v
  not_mutual i v l free free' e =
      let one : f.trunk i v ≡ parent i v ∷ f.trunk i (parent i v) = trunk_step i v l free in
      let two : f.trunk i (parent i v) ≡ parent i (parent i v) ∷ f.trunk i (parent i (parent i v)) = trunk_step i (parent i v) l free' in
      let three : f.trunk i (parent i (parent i v)) ≡ f.trunk i v = ap (f.trunk i) e in
      omega (arith, ap (λ p. length p) one, ap (λ p. length p) two, ap (λ p. length p) three)

  -- ---- who owns a link

  -- whether a node and its parent name each other is decided
  pub mutual_or_not : (i v : ℕ) → NameEachOther m parent i v ⊎ (NameEachOther m parent i v → ⊥)
  mutual_or_not i v = elim (cases_Bool (m (parent i v))) [
    | inl stops ↦ inr (λ h. both_ways (m (parent i v)) h.0 stops)
    | inr free ↦ elim (cases_eq (parent (after i) (parent i v)) v) [ inl e ↦ inl (free, e) | inr ne ↦ inr (λ h. ne h.1) ]
  ]

  -- where they name each other, the parent owns the link in the next tree
  pub owner_up : (i v : ℕ) → i < 3 → m v ≡ false → NameEachOther m parent i v → Owns m parent (after i) (parent i v) v
  owner_up i v l free both = record {
    free = both.0;
    parent_is = both.1;
    alone = λ h. parents_differ i (after (after i)) v l (after_below (after i) (after_below i l)) (twice_other i l) free (sym h.1 ∙ ap (parent (after (after i))) both.1);
  }

  -- no link is owned twice from one end
  pub one_tree : (i j v w : ℕ) → i < 3 → j < 3 → Owns m parent i v w → Owns m parent j v w → i ≡ j
  one_tree i j v w l h a b = elim (cases_eq i j) [ inl e ↦ e | inr ne ↦ absurd (parents_differ i j v l h ne a.free (a.parent_is ∙ sym b.parent_is)) ]

  -- and none from both
  pub one_end : (i j v w : ℕ) → i < 3 → j < 3 → Owns m parent i v w → Owns m parent j w v → ⊥
  one_end i j v w l h a b = elim (three_ways i j l h) [
    | inl same ↦ not_mutual i v l a.free (subst (λ x. m x ≡ false) (sym a.parent_is) b.free) (ap (parent i) a.parent_is ∙ (subst (λ k. parent k w ≡ v) (sym same) b.parent_is))
    | inr rest ↦ elim rest [
      | inl next ↦ a.alone (subst (λ x. m x ≡ false) (sym a.parent_is) b.free, ap (parent (after i)) a.parent_is ∙ subst (λ k. parent k w ≡ v) next b.parent_is)
      | inr before ↦ b.alone (subst (λ x. m x ≡ false) (sym b.parent_is) a.free, ap (parent (after j)) b.parent_is ∙ subst (λ k. parent k v ≡ w) before a.parent_is)
    ]
  ]

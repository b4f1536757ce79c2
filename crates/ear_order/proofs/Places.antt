-- An ear by its places: the facts of an ear, and the test for the nodes at some of its places.
use Rattle.std.proofs.Common.{◌≡◌, ℕ, suc, ◌<◌, ◌≤◌, Bool, true, false, ◌&&◌, ◌==◌, leb, refl, sym, inl, inr, arith}
use Rattle.std.proofs.lemmas.Bool.{and_parts, and_from, leb-true, le-leb, eqb-true, eq-eqb, false_from_ne_true, cases_order}
use Rattle.tomo_base.specs.Network.{Network, linked}
use Rattle.ear_order.specs.Turns.{run}
use Rattle.tomo_base.proofs.Counts.{any_below-from, any_below_gives}

-- p 0 .. p last is an ear for D: a path between two nodes of D whose inner nodes, at least one, are not in D
pub record EarAt (g : Network) (D : ℕ → Bool) (p : ℕ → ℕ) (last : ℕ) : Type 0 where
  pub inner_node : 2 ≤ last
  pub steps : (i : ℕ) → i < last → linked g (p i) (p (suc i)) ≡ true
  pub distinct : (i j : ℕ) → i < j → j ≤ last → p i ≡ p j → ⊥
  pub starts : D (p 0) ≡ true
  pub ends : D (p last) ≡ true
  pub fresh : (i : ℕ) → 0 < i → i < last → D (p i) ≡ false

-- each of these places is one
pub run_at : (p : ℕ → ℕ) (from to i : ℕ) → from ≤ i → i < to → run p from to (p i) ≡ true
unfolding run
run_at p from to i low high = any_below-from to (λ j. leb from j && (p j == p i)) i high (and_from (leb from i) (p i == p i) (le-leb from i low) (eq-eqb (p i) (p i) refl))

-- a node of the run has a place
pub run_gives : (p : ℕ → ℕ) (from to v : ℕ) → run p from to v ≡ true → (i : ℕ) × (from ≤ i) × (i < to) × (p i ≡ v)
unfolding run
run_gives p from to v h =
    let k = any_below_gives to (λ i. leb from i && (p i == v)) h in
    let both = and_parts (leb from k.0) (p k.0 == v) k.2 in
    (k.0, leb-true from k.0 both.0, k.1, eqb-true (p k.0) v both.1)

-- a node at no place of the run is not in it
pub run_not : (p : ℕ → ℕ) (from to v : ℕ) → ((i : ℕ) → from ≤ i → i < to → p i ≡ v → ⊥) → run p from to v ≡ false
run_not p from to v none = false_from_ne_true (run p from to v) (λ y. let k = run_gives p from to v y in none k.0 k.1 k.2 k.3)

module _ (g : Network) (D : ℕ → Bool) (p : ℕ → ℕ) (last : ℕ) (ear : EarAt g D p last) where
  -- the ends differ
  pub ends_differ : p 0 ≡ p last → ⊥
  ends_differ = ear.distinct 0 last (omega (arith, ear.inner_node)) (omega arith)

  -- no two places have one node
  pub one_place : (i j : ℕ) → i ≤ last → j ≤ last → (i ≡ j → ⊥) → p i ≡ p j → ⊥
  one_place i j hi hj differ e = elim (cases_order i j) [
    | inl same ↦ differ same
    | inr o ↦ elim o [ inl lt ↦ ear.distinct i j lt hj e | inr gt ↦ ear.distinct j i gt hi (sym e) ]
  ]

-- Classes of nodes with one label.
use Rattle.std.specs.Prelude.{ℕ, ◌≡◌, ◌<◌, ◌≤◌, ◌==◌, List, map, length, slice_index, IsTrue, All, AllPairs, Any}
use Rattle.std.specs.List.Sorted.{IsStrictlyIncreasing}
use Rattle.tomo_base.specs.declared.pocket.Pocket.{Pocket}
use Rattle.tomo_base.specs.Sets.{has}

-- the sets of pockets
abbrev pub sets_of : List Pocket → List (List ℕ)
sets_of pockets = map (λ k. k.nodes) pockets

-- the node has a label above 0, and no lower node has the same
abbrev pub IsFirst : List ℕ → ℕ → Type 0
IsFirst labels v = (1 ≤ slice_index labels v) × ((u : ℕ) → u < v → slice_index labels u ≡ slice_index labels v → ⊥)

-- exactly the nodes with one label above 0, ascending
pub record IsClass (labels : List ℕ) (p : List ℕ) : Type 0 where
  pub filled : 0 < length p
  pub labelled : 1 ≤ slice_index labels (slice_index p 0)
  pub same : (u : ℕ) → has p u ≡ (slice_index labels u == slice_index labels (slice_index p 0))
  pub sorted : IsStrictlyIncreasing p

-- the classes with a node below v, by ascending least node
pub record AreClasses (labels : List ℕ) (v : ℕ) (sets : List (List ℕ)) : Type 0 where
  pub each : All (λ p. IsClass labels p) sets
  pub below : All (λ p. slice_index p 0 < v) sets
  pub every : (u : ℕ) → u < v → 1 ≤ slice_index labels u → Any (λ p. IsTrue (has p u)) sets
  pub ascending : AllPairs (λ p q. slice_index p 0 < slice_index q 0) sets

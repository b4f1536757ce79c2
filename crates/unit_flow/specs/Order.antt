-- Paths in the order of their second nodes.
use Rattle.std.specs.Prelude.{ℕ, ◌≡◌, ◌<◌, Option, Some, List, [], slice_index_or, IsTrue, AllPairs}
use Rattle.std.specs.List.Sorted.{IsPermutation}
use Rattle.unit_flow.specs.Flows.{second_of}
use Rattle.unit_flow.specs.Arrays.{on}
use Rattle.unit_flow.specs.Steps.{entry_of}

-- the same paths, by ascending second node
pub record AreInOrder (paths sorted : List (List ℕ)) : Type 0 where
  pub same : IsPermutation paths sorted
  pub ascending : AllPairs (λ p q. second_of p < second_of q) sorted

-- the second node of each of the first i paths has an entry, and an entry of a node is the place of such a path
pub record ArePlaces (paths : List (List ℕ)) (i : ℕ) (places : List (Option ℕ)) : Type 0 where
  pub entered : (k : ℕ) → k < i → IsTrue (on (entry_of places) (second_of (slice_index_or paths k [])))
  pub sound : (v k : ℕ) → entry_of places v ≡ Some k → (k < i) × (second_of (slice_index_or paths k []) ≡ v)

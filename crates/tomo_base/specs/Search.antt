-- Marks on nodes, and what a search over the free nodes of a graph finds.
use Rattle.std.specs.Prelude.{ℕ, ◌≡◌, ◌+◌, ◌<◌, ◌≤◌, Bool, true, false, not, nat_lt, List, [], ◌∷◌, length, slice_index_or, IsTrue}
use Rattle.tomo_base.specs.Network.{Network, linked}
use Rattle.tomo_base.specs.Sets.{one_if}
use Rattle.tomo_base.specs.declared.search.Swept.{Swept}

-- the mark of a node
abbrev pub mark_of : List Bool → ℕ → Bool
mark_of seen u = slice_index_or seen u false

-- how many nodes have no mark
abbrev pub unseen_of : List Bool → ℕ
unseen_of [] = 0
unseen_of (true ∷ xs) = unseen_of xs
unseen_of (false ∷ xs) = unseen_of xs + 1

-- the number at a place of a list
abbrev pub entry_at : List ℕ → ℕ → ℕ
entry_at xs k = slice_index_or xs k 0

-- how many of the ranks are n or above
abbrev pub unranked : ℕ → List ℕ → ℕ
unranked n [] = 0
unranked n (r ∷ rs) = one_if (not (nat_lt r n)) + unranked n rs

-- different free nodes in an order; the rank of each is its place there, and the rank of each other node is n
pub record AreRanked (n : ℕ) (free : List Bool) (order rank : List ℕ) : Type 0 where
  pub one_each : length rank ≡ n
  pub ranked : (k : ℕ) → k < length order → (entry_at order k < n) × (entry_at rank (entry_at order k) ≡ k)
  pub most : (v : ℕ) → v < n → entry_at rank v ≤ n
  pub placed : (v : ℕ) → v < n → entry_at rank v < n → (entry_at rank v < length order) × (entry_at order (entry_at rank v) ≡ v)
  pub allowed : (k : ℕ) → k < length order → mark_of free (entry_at order k) ≡ true
  pub balance : unranked n rank + length order ≡ n

-- a search from the seeds that has looked at the neighbours of the first `head` nodes of its order: the seeds come first, each other node has a parent of lower rank, and no free neighbour of those is left out
pub record IsSearch (g : Network) (free : List Bool) (seeds : List ℕ) (head : ℕ) (order parent rank : List ℕ) : Type 0 where
  pub ranks : AreRanked g.nodes free order rank
  pub parents : length parent ≡ g.nodes
  pub begins : (k : ℕ) → k < length seeds → (k < length order) × (entry_at order k ≡ entry_at seeds k)
  pub roots : (k : ℕ) → k < length seeds → entry_at parent (entry_at order k) ≡ entry_at order k
  pub steps : (k : ℕ) → length seeds ≤ k → k < length order →
      (entry_at rank (entry_at parent (entry_at order k)) < k) × IsTrue (linked g (entry_at parent (entry_at order k)) (entry_at order k))
  pub closed : (k w : ℕ) → k < head → IsTrue (linked g (entry_at order k) w) → mark_of free w ≡ true → entry_at rank w < g.nodes

-- the whole search: exactly the free nodes to which walks over free nodes lead from the seeds
abbrev pub IsSweep : Network → List Bool → List ℕ → Swept → Type 0
IsSweep g free seeds s = IsSearch g free seeds (length s.order.items) s.order.items s.parent.items s.rank.items

-- What a search through a zone from the neighbours of a node reaches, and how it leads back.
use Rattle.std.specs.Prelude.{ℕ, ◌≡◌, ◌≢◌, ◌<◌, ◌⊎◌, Bool, true, List, length, AllPairs}
use Rattle.tomo_base.specs.Network.{Network, linked}
use Rattle.tomo_base.specs.Sets.{has}
use Rattle.tomo_base.specs.Search.{entry_at}
use Rattle.tomo_base.specs.declared.search.Swept.{Swept}

-- the neighbours of e that are in the zone, each once
pub record AreSeeds (g : Network) (zone : ℕ → Bool) (e : ℕ) (seeds : List ℕ) : Type 0 where
  pub each : (v : ℕ) → has seeds v ≡ true → (linked g e v ≡ true) × (zone v ≡ true)
  pub all : (v : ℕ) → linked g e v ≡ true → zone v ≡ true → has seeds v ≡ true
  pub different : AllPairs (λ u v. u ≢ v) seeds

-- each reached node is its own parent and a neighbour of e, or its parent is a neighbour of lower rank
pub record LeadsBack (g : Network) (e : ℕ) (s : Swept) : Type 0 where
  pub parents : length s.parent.items ≡ g.nodes
  pub ranks : length s.rank.items ≡ g.nodes
  pub placed : (k : ℕ) → k < length s.order.items → (entry_at s.order.items k < g.nodes) × (entry_at s.rank.items (entry_at s.order.items k) ≡ k)
  pub back : (v : ℕ) → has s.order.items v ≡ true → ((entry_at s.parent.items v ≡ v) × (linked g e v ≡ true))
      ⊎ ((has s.order.items (entry_at s.parent.items v) ≡ true) × (entry_at s.rank.items (entry_at s.parent.items v) < entry_at s.rank.items v) × (linked g (entry_at s.parent.items v) v ≡ true))

-- the search reaches all that walks through the zone from e reach
pub record IsReached (g : Network) (zone : ℕ → Bool) (e : ℕ) (s : Swept) : Type 0 where
  pub leads_back : LeadsBack g e s
  pub within : (v : ℕ) → has s.order.items v ≡ true → zone v ≡ true
  pub enters : (w : ℕ) → linked g e w ≡ true → zone w ≡ true → has s.order.items w ≡ true
  pub closed : (v w : ℕ) → has s.order.items v ≡ true → linked g v w ≡ true → zone w ≡ true → has s.order.items w ≡ true

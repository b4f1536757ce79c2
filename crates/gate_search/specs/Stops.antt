-- A search that has come to a node of its order, and the room that it takes.
use Rattle.std.specs.Prelude.{ℕ, ◌≡◌, ◌<◌, ◌≤◌, Bool, List, [], ◌∷◌, length, All}
use Rattle.tomo_base.specs.Network.{Network}
use Rattle.tomo_base.specs.Search.{entry_at, IsSearch}
use Rattle.tomo_base.specs.declared.search.Swept.{Swept}
use Rattle.gate_search.specs.Gates.{IsGate, HasNoGate}
use Rattle.gate_search.specs.declared.gates.Gate.{Gate}
use Rattle.gate_search.specs.declared.search.GateSearch.{GateSearch}

-- room for n nodes: a node of the order has its place for a rank, and each other node has n
pub record IsRoom (n : ℕ) (s : Swept) : Type 0 where
  pub parents : length s.parent.items ≡ n
  pub ranks : length s.rank.items ≡ n
  pub nodes : All (λ v. v < n) s.order.items
  pub most : (v : ℕ) → v < n → entry_at s.rank.items v ≤ n
  pub placed : (v : ℕ) → v < n → entry_at s.rank.items v < n → (entry_at s.rank.items v < length s.order.items) × (entry_at s.order.items (entry_at s.rank.items v) ≡ v)

-- a search from its start over the free nodes that has looked at the first nodes of its order
pub record IsGateSearch (g : Network) (free : List Bool) (s : GateSearch) : Type 0 where
  pub search : IsSearch g free (s.start ∷ []) s.head s.found.order.items s.found.parent.items s.found.rank.items
  pub head : s.head ≤ length s.found.order.items

-- the nodes that were looked at have no gates but to c and d
abbrev pub ArePassed : Network → (ℕ → Bool) → (ℕ → Bool) → GateSearch → ℕ → ℕ → Type 0
ArePassed g w free s c d = (k : ℕ) → k < s.head → HasNoGate g w free (entry_at s.found.order.items k) c d

-- the search began at the inner node of the gate, and has looked at no node with a gate to another outer node
pub record IsAtGate (g : Network) (w free : ℕ → Bool) (s : GateSearch) (e : Gate) : Type 0 where
  pub start : s.start ≡ e.inner
  pub gate : IsGate g w free e.inner g.nodes g.nodes e.outer
  pub passed : ArePassed g w free s e.outer e.outer

-- the search began at x, has looked at all that it has reached, and none of these has a gate
pub record IsGateless (g : Network) (w free : ℕ → Bool) (s : GateSearch) (x : ℕ) : Type 0 where
  pub start : s.start ≡ x
  pub all : length s.found.order.items ≤ s.head
  pub passed : ArePassed g w free s g.nodes g.nodes

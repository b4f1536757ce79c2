-- Nodes of a set that no single node other than the root parts from it inside a larger set, and how a search adds to them.
use Rattle.std.specs.Prelude.{ℕ, ◌≡◌, ◌≢◌, ◌≤◌, Bool, false, List, length, IsTrue}
use Rattle.tomo_base.specs.Network.{Network, linked}
use Rattle.tomo_base.specs.Sets.{without, Within}
use Rattle.tomo_base.specs.Search.{mark_of}
use Rattle.tomo_base.specs.Parting.{AreJoinedIn}
use Rattle.gate_search.specs.Gates.{IsGate}
use Rattle.gate_search.specs.Trees.{IsRanked}
use Rattle.gate_search.specs.Stops.{IsGateSearch, ArePassed}
use Rattle.gate_search.specs.declared.search.GateSearch.{GateSearch}
use Rattle.gate_search.specs.declared.advancing.Advance.{Advance}
use Rattle.gate_search.specs.declared.advancing.Advance.TheVariants.{Way, Cut}

-- the nodes of the set that are not free are held: the root, its neighbours, and further nodes; no one node other than the root parts a held node from it in the larger set
pub record IsGrown (g : Network) (base : ℕ → Bool) (root : ℕ) (w free : ℕ → Bool) : Type 0 where
  pub in_base : Within w base
  pub root_in : IsTrue (w root)
  pub root_held : free root ≡ false
  pub free_in : Within free w
  pub near : (v : ℕ) → IsTrue (linked g root v) → IsTrue (w v) → free v ≡ false
  pub joined : (c v : ℕ) → c ≢ root → v ≢ c → IsTrue (w v) → free v ≡ false → AreJoinedIn g (without base c) root v

-- a search from a node with a gate that has come to another node with a gate to another held node
pub record HasTwoGates (g : Network) (w : ℕ → Bool) (free : List Bool) (s : GateSearch) (y : ℕ) : Type 0 where
  pub search : IsGateSearch g free s
  pub ranked : IsRanked s.found y
  pub first : ℕ
  pub second : ℕ
  pub start_gate : IsGate g w (mark_of free) s.start g.nodes g.nodes first
  pub other_gate : IsGate g w (mark_of free) y first first second

-- a search from a node with a gate to d that has come to its end, and to no gate to another held node
pub record HasOneGate (g : Network) (w : ℕ → Bool) (free : List Bool) (s : GateSearch) (d : ℕ) : Type 0 where
  pub search : IsGateSearch g free s
  pub all : length s.found.order.items ≤ s.head
  pub gate : IsGate g w (mark_of free) s.start g.nodes g.nodes d
  pub passed : ArePassed g w (mark_of free) s d d

-- what a search tells
abbrev pub TellsAdvance : Network → (ℕ → Bool) → List Bool → GateSearch → Advance → Type 0
TellsAdvance g w free s (Way y) = HasTwoGates g w free s y
TellsAdvance g w free s (Cut d) = HasOneGate g w free s d

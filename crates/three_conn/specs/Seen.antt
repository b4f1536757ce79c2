-- Nodes that no two others part from the monitors.
use Rattle.std.specs.Prelude.{ℕ, ◌≡◌, ◌≢◌, ◌<◌, Bool, List, length, true, IsTrue, ◌↔◌}
use Rattle.tomo_base.specs.Network.{Network}
use Rattle.tomo_base.specs.Walks.{Reaches, everything}
use Rattle.tomo_base.specs.Search.{mark_of}
use Rattle.tomo_base.specs.Parting.{without_two}

-- without any two other nodes, a walk leads from v to a node of m
abbrev pub IsSeen : Network → (ℕ → Bool) → ℕ → Type 0
IsSeen g m v = (c d : ℕ) → c ≢ v → d ≢ v → (e : ℕ) × IsTrue (m e) × Reaches g (without_two everything c d) v e

-- a mark for each node, on exactly the nodes that are seen
pub record AreSeen (g : Network) (m : ℕ → Bool) (marks : List Bool) : Type 0 where
  pub one_each : length marks ≡ g.nodes
  pub marked : (v : ℕ) → v < g.nodes → (mark_of marks v ≡ true ↔ IsSeen g m v)

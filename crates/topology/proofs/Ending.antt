-- When all rows have been read: a draft whose graph is connected is a topology, and a node that is apart is the first.
use Rattle.std.proofs.Common.{◌≡◌, ℕ, ◌<◌, ◌≤◌, List, length, refl, Some, Option, IfSome}
use Rattle.tomo_base.specs.declared.graph.Link.{Link}
use Rattle.tomo_base.specs.Network.{Network}
use Rattle.tomo_base.specs.Walks.{IsConnected, Reaches, everything}
use Rattle.topology.specs.Topology.{IsTopology}
use Rattle.topology.specs.Faults.{IsFirstApart}
use Rattle.topology.specs.Draft.{IsDraft}
use Rattle.topology.proofs.Numbers.{names_differ}

-- a draft of enough nodes, whose graph is connected
pub draft_is_topology : (names : List (List ℕ)) (links : List Link) (g : Network) → IsDraft names links → 3 ≤ length names → g ≡ record { nodes = length names; links = links } → IsConnected g
    → IsTopology (record { names = names; graph = g })
draft_is_topology names links g draft some is connected = record {
  graph = rw is draft.graph;
  connected = connected;
  some_nodes = rw is some;
  few_nodes = rw is draft.few_nodes;
  few_links = rw is draft.few_links;
  one_each = rw is refl;
  named = draft.named;
  different = names_differ names draft.different;
}

-- the node that a search found apart is the first
pub found_apart : (g : Network) (o : Option ℕ) (v : ℕ) → o ≡ Some v → IfSome o (λ u. u < g.nodes) → IfSome o (λ u. Reaches g everything 0 u → ⊥) → IfSome o (λ u. (w : ℕ) → w < u → Reaches g everything 0 w) → IsFirstApart g v
found_apart g o v is node apart least = record { node = rw is at node; apart = rw is at apart; least = rw is at least }

-- Graphs that stay connected without any two nodes, and the graph with two further nodes that are linked to every monitor.
use Rattle.std.specs.Prelude.{ℕ, ◌+◌, ◌≤◌, Bool, List, [], ◌∷◌, ◌++◌}
use Rattle.tomo_base.specs.declared.graph.Link.{Link}
use Rattle.tomo_base.specs.Network.{Network}
use Rattle.tomo_base.specs.Sets.{size, complement}
use Rattle.tomo_base.specs.Walks.{IsConnectedIn}

-- for each of the monitors, the link to n and the link to n + 1
abbrev pub hub_links : ℕ → List ℕ → List Link
hub_links n [] = []
hub_links n (v ∷ vs) = record { a = v; b = n } ∷ record { a = v; b = n + 1 } ∷ hub_links n vs

-- the graph with two further nodes, each linked to every monitor
abbrev pub extended : Network → List ℕ → Network
extended g m = record { nodes = g.nodes + 2; links = g.links ++ hub_links g.nodes m }

-- at least four nodes, and connected without any set of at most two nodes
pub record IsThreeConnected (g : Network) : Type 0 where
  pub four : 4 ≤ g.nodes
  pub whole : (c : ℕ → Bool) → size g c ≤ 2 → IsConnectedIn g (complement c)

-- Nodes that have their numbers for names.
use Rattle.std.specs.Prelude.{ℕ, zero, suc, List, [], ◌∷◌, ◌++◌, decimal}
use Rattle.tomo_base.specs.Network.{Network}
use Rattle.topology.specs.Topology.{Topo}

-- the numbers below n in decimal, ascending
unfoldable pub decimals : ℕ → List (List ℕ)
decimals zero = []
decimals (suc k) = decimals k ++ decimal k ∷ []

-- the graph, in which each node has its number for a name
abbrev pub with_numbers : Network → Topo
with_numbers g = record { names = decimals g.nodes; graph = g }

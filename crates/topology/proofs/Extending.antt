-- A topology leaves room for two links more at each of some of its nodes.
use Rattle.std.proofs.Common.{◌+◌, ◌*◌, ◌<◌, ◌≤◌, ℕ, List, length, All, arith}
use Rattle.std.specs.List.Sorted.{IsStrictlyIncreasing}
use Rattle.tomo_base.specs.Limits.{graph_link_limit}
use Rattle.tomo_base.specs.Sets.{has}
use Rattle.tomo_base.proofs.Counts.{count-le}
use Rattle.tomo_base.proofs.Members.{count-has}
use Rattle.topology.specs.Topology.{Topo, IsTopology}

-- so it can be extended by two nodes that are linked to each of these
pub extendable : (t : Topo) (m : List ℕ) → IsTopology t → IsStrictlyIncreasing m → All (λ v. v < t.graph.nodes) m → length t.graph.links + 2 * length m ≤ graph_link_limit
extendable t m topology ascending below = omega (arith, topology.few_links, topology.few_nodes, count-has t.graph.nodes m ascending below, count-le t.graph.nodes (has m))

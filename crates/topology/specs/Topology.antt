-- The topology that rows name: nodes and links, each numbered by first appearance.
use Rattle.std.specs.Prelude.{ℕ, ◌≡◌, ◌≢◌, ◌≤◌, Bool, ◌==◌, ◌&&◌, List, [], ◌∷◌, length, map, All, AllPairs, IsTrue, bytes_eq}
use Rattle.std.specs.List.{flat_map, position_or_len}
use Rattle.tomo_base.specs.Limits.{link_limit, node_limit}
use Rattle.tomo_base.specs.declared.graph.Link.{Link}
use Rattle.tomo_base.specs.Network.{Network, IsGraph}
use Rattle.tomo_base.specs.Table.{in_order}
use Rattle.tomo_base.specs.Walks.{IsConnected}
use Rattle.rows.specs.Rows.{Row}
use Rattle.topology.specs.Names.{name_at, is_name}
use Rattle.topology.specs.Distinct.{distinct}

-- a topology is a graph and the names of its nodes
pub record Topo : Type 0 where
  pub names : List (List ℕ)
  pub graph : Network

-- the names in the first two fields of a row
abbrev pub row_names : Row → List (List ℕ)
row_names row = name_at row 0 ∷ name_at row 1 ∷ []

-- the names of the rows, each once, by first appearance
unfoldable pub names_of : List Row → List (List ℕ)
names_of rows = distinct bytes_eq (flat_map row_names rows)

-- the node with that name: its place among the names
unfoldable pub node_of : List (List ℕ) → List ℕ → ℕ
node_of names name = position_or_len (bytes_eq name) names

-- a link, by its two ends
abbrev pub link_between : ℕ × ℕ → Link
link_between ends = record { a = ends.0; b = ends.1 }

-- the link between the two nodes that a row names, lower first
abbrev pub link_of : List (List ℕ) → Row → Link
link_of names row = in_order (link_between (node_of names (name_at row 0), node_of names (name_at row 1)))

-- two links have the same ends
abbrev pub same_link : Link → Link → Bool
same_link l m = (l.a == m.a) && (l.b == m.b)

-- the links of the rows, each once, by first appearance
unfoldable pub links_of : List Row → List Link
links_of rows = distinct same_link (map (link_of (names_of rows)) rows)

-- a node for each name, and these links
abbrev pub topo_with : List (List ℕ) → List Link → Topo
topo_with names links = record { names = names; graph = record { nodes = length names; links = links } }

-- the names and the graph of the rows
abbrev pub topo_of : List Row → Topo
topo_of rows = topo_with (names_of rows) (links_of rows)

-- what every topology keeps
pub record IsTopology (t : Topo) : Type 0 where
  pub graph : IsGraph t.graph
  pub connected : IsConnected t.graph
  pub some_nodes : 3 ≤ t.graph.nodes
  pub few_nodes : t.graph.nodes ≤ node_limit
  pub few_links : length t.graph.links ≤ link_limit
  pub one_each : length t.names ≡ t.graph.nodes
  pub named : All (λ name. IsTrue (is_name name)) t.names
  pub different : AllPairs (λ x y. x ≢ y) t.names

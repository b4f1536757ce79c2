-- What the steps of the construction say of their trees, roots, names and paths.
use Rattle.std.specs.Prelude.{ℕ, ◌≡◌, ◌+◌, ◌*◌, ◌<◌, ◌≤◌, ◌⊎◌, ◌||◌, not, nat_lt, Bool, false, List, [], ◌∷◌, length, slice_get, Some, slice_index_or}
use Rattle.tomo_base.specs.declared.graph.Link.{Link}
use Rattle.tomo_base.specs.Limits.{graph_link_limit, graph_node_limit}
use Rattle.tomo_base.specs.Network.{Network, IsGraph}
use Rattle.tomo_base.specs.Sets.{has}
use Rattle.tomo_base.specs.Search.{entry_at, mark_of}
use Rattle.simple_path.specs.declared.recipe.Term.{Term}
use Rattle.cross_links.specs.Joining.{turned_onto}
use Rattle.indep_trees.specs.Trees.{Climbs, AreTrees, Trees, parent_in, rank_in}
use Rattle.stpc_paths.specs.declared.roots.Root.{Root}
use Rattle.stpc_paths.specs.Roots.{after, NameEachOther, tree_of, second_start, IsRoot}
use Rattle.stpc_paths.specs.Names.{IsPathName}
use Rattle.stpc_paths.specs.Terms.{link_terms}

-- the monitors that the trees are for
abbrev pub monitor_in : Trees → ℕ → Bool
monitor_in t = has t.monitors

-- independent trees of a graph
pub record IsForest (t : Trees) : Type 0 where
  pub graph : IsGraph t.graph
  pub trees : AreTrees t

-- one mark for each node: that it is a monitor
pub record MarksMonitors (t : Trees) (marks : List Bool) : Type 0 where
  pub size : length marks ≡ t.graph.nodes
  pub each : (v : ℕ) → v < t.graph.nodes → mark_of marks v ≡ monitor_in t v

-- each of the links has its root
pub record AreRoots (t : Trees) (links : List Link) (roots : List Root) : Type 0 where
  pub one_each : length roots ≡ length links
  pub each : (e : ℕ) (l : Link) (d : Root) → slice_get links e ≡ Some l → IsRoot (monitor_in t) (parent_in t) (rank_in t) l (slice_index_or roots e d)

-- a forest with these monitors, and the roots of its few links
pub record AreRooted (t : Trees) (m : List ℕ) (all : List Root) : Type 0 where
  pub forest : IsForest t
  pub monitors : m ≡ t.monitors
  pub few_nodes : t.graph.nodes ≤ graph_node_limit
  pub few_roots : length all ≤ graph_link_limit
  pub roots : AreRoots t t.graph.links all

-- trees with these monitors, a name for each node and tree, and a root
pub record IsNamedRoot (t : Trees) (m names : List ℕ) (r : Root) : Type 0 where
  pub monitors : m ≡ t.monitors
  pub few_nodes : t.graph.nodes ≤ graph_node_limit
  pub node : r.node < t.graph.nodes
  pub other : r.other < t.graph.nodes
  pub size : length names ≡ 3 * t.graph.nodes

-- the path of a link with this root, whatever tree paths there are
abbrev pub IsPathOf : Trees → Root → List ℕ → Type 0
IsPathOf t r path = (p q : List ℕ) → Climbs (monitor_in t) (parent_in t (tree_of r.tree)) r.node p
    → Climbs (monitor_in t) (parent_in t (after (tree_of r.tree))) (second_start (parent_in t) r.node r.other r.tree) q
    → path ≡ turned_onto (r.node ∷ p) (second_start (parent_in t) r.node r.other r.tree ∷ q)

-- each root has its path, in their order
pub record ArePathsOf (t : Trees) (roots : List Root) (paths : List (List ℕ)) : Type 0 where
  pub one_each : length paths ≡ length roots
  pub each : (e : ℕ) (d : Root) → e < length roots → IsPathOf t (slice_index_or roots e d) (slice_index_or paths e [])

-- where a tree path stops: at a monitor, and at what is no node
abbrev pub stops : Network → (ℕ → Bool) → ℕ → Bool
stops g m v = m v || not (nat_lt v g.nodes)

-- where those of the trees do
abbrev pub stops_in : Trees → ℕ → Bool
stops_in t = stops t.graph (monitor_in t)

-- u has the path of v for tree i and the next: from u on, each has a parent in tree i that names it in the next, up to v
pub data SharesPath (m : ℕ → Bool) (parent : ℕ → ℕ → ℕ) (i v : ℕ) : ℕ → Type 0 where
  itself : SharesPath m parent i v v
  below : {u : ℕ} → m u ≡ false → NameEachOther m parent i u → SharesPath m parent i v (parent i u) → SharesPath m parent i v u

-- the place of a node and a tree in a table of three columns
abbrev pub cell : ℕ → ℕ → ℕ
cell i v = 3 * v + i

-- the name in the table of a node for a tree
abbrev pub name_in : List ℕ → ℕ → ℕ → ℕ
name_in names i v = entry_at names (cell i v)

-- the name was put down for tree i at each node that shares the path of v, and nowhere else
pub record PutsName (t : Trees) (i v name : ℕ) (old new : List ℕ) : Type 0 where
  pub size : length new ≡ length old
  pub named : (u : ℕ) → SharesPath (stops_in t) (parent_in t) i v u → name_in new i u ≡ name
  pub others : (x : ℕ) → (entry_at new x ≡ entry_at old x) ⊎ ((u : ℕ) × SharesPath (stops_in t) (parent_in t) i v u × (x ≡ cell i u))

-- the table has the names of all nodes that are no monitors
pub record AreNames (t : Trees) (names : List ℕ) : Type 0 where
  pub size : length names ≡ 3 * t.graph.nodes
  pub each : (i v : ℕ) → i < 3 → stops_in t v ≡ false → IsPathName t.graph.links (stops_in t) (parent_in t) i v (name_in names i v)

-- the terms of each link by its root and the names
pub record AreTermsOf (t : Trees) (names : List ℕ) (roots : List Root) (recipes : List (List Term)) : Type 0 where
  pub one_each : length recipes ≡ length roots
  pub each : (e : ℕ) (d : Root) → e < length roots → slice_index_or recipes e [] ≡ link_terms (stops_in t) (name_in names) e (slice_index_or roots e d).node (slice_index_or roots e d).other (slice_index_or roots e d).tree

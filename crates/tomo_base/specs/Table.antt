-- The table of neighbours that a graph keeps, and the first fault of a list of links.
use Rattle.std.specs.Prelude.{ℕ, ◌≡◌, ◌≢◌, ◌<◌, ◌≤◌, ◌⊎◌, cond, nat_lt, List, map, take, IsTrue, All, AllPairs, Contains, length, slice_get, slice_index_or, Some, Vec}
use Rattle.std.specs.Global.{Global}
use Rattle.tomo_base.specs.Limits.{graph_link_limit, graph_node_limit}
use Rattle.tomo_base.specs.declared.graph.Link.{Link}
use Rattle.tomo_base.specs.declared.graph.Hop.{Hop}
use Rattle.tomo_base.specs.declared.graph.GraphFault.{GraphFault}
use Rattle.tomo_base.specs.declared.graph.GraphFault.TheVariants.{NoMemory, Range, Loop, Repeat}
use Rattle.tomo_base.specs.Network.{joins, any_joins, AreLinks}

-- the link with its lower end first
abbrev pub in_order : Link → Link
in_order l = cond (nat_lt l.b l.a) (record { a = l.b; b = l.a }) l

-- the link of that number joins a and b
abbrev pub JoinsAt : List Link → ℕ → ℕ → ℕ → Type 0
JoinsAt links i a b = (l : Link) × (slice_get links i ≡ Some l) × IsTrue (joins l a b)

-- the neighbours ascend
abbrev pub Ascend : List Hop → Type 0
Ascend hops = AllPairs (λ h k. h.node < k.node) hops

-- the neighbours of v, ascending, each with the number of its link
pub record AreHops (links : List Link) (v : ℕ) (hops : List Hop) : Type 0 where
  pub ascending : Ascend hops
  pub sound : All (λ h. JoinsAt links h.link v h.node) hops
  pub complete : (i w : ℕ) → JoinsAt links i v w → Contains hops (record { node = w; link = i })

-- the rows are the neighbours of the nodes 0, 1, ..
abbrev pub AreRows : List Link → List (Vec Hop Global) → Type 0
AreRows links rows = (v : ℕ) (d : Vec Hop Global) → v < length rows → AreHops links v (slice_index_or rows v d).items

-- in each row they do
abbrev pub RowsAscend : List (Vec Hop Global) → Type 0
RowsAscend rows = (v : ℕ) (d : Vec Hop Global) → v < length rows → Ascend (slice_index_or rows v d).items

-- n nodes, these links, and the neighbours of each node
pub record IsTable (n : ℕ) (links : List Link) (rows : List (Vec Hop Global)) : Type 0 where
  pub few_nodes : n ≤ graph_node_limit
  pub few_links : length links ≤ graph_link_limit
  pub graph : AreLinks n links
  pub one_each : length rows ≡ n
  pub hops : AreRows links rows

-- the links before place i are fine, and the link there is l
pub record FollowsFine (n : ℕ) (links : List Link) (i : ℕ) (l : Link) : Type 0 where
  pub fine : AreLinks n (map in_order (take i links))
  pub there : slice_get links i ≡ Some l

-- the first fault of a list of links
abbrev pub IsFirstFault : ℕ → List Link → GraphFault → Type 0
IsFirstFault n links NoMemory = Unit {0}
IsFirstFault n links (Range i) = (l : Link) × FollowsFine n links i l × ((n ≤ l.a) ⊎ (n ≤ l.b))
IsFirstFault n links (Loop i) = (l : Link) × FollowsFine n links i l × (l.a < n) × (l.a ≡ l.b)
IsFirstFault n links (Repeat i) = (l : Link) × FollowsFine n links i l × (l.a < n) × (l.b < n) × (l.a ≢ l.b) × IsTrue (any_joins (take i links) l.a l.b)

-- The first fault of rows that are no topology.
use Rattle.std.specs.Prelude.{ℕ, ◌≡◌, ◌≤◌, ◌<◌, ◌+◌, Bool, true, false, not, ◌&&◌, nat_lt, List, [], ◌∷◌, ◌++◌, length, take, drop, bytes_eq, Option, Some, None, if◌then◌else◌, ⊤}
use Rattle.tomo_base.specs.Limits.{link_limit, node_limit}
use Rattle.tomo_base.specs.Network.{Network}
use Rattle.tomo_base.specs.Walks.{Reaches, everything}
use Rattle.rows.specs.Rows.{Row}
use Rattle.topology.specs.declared.faults.TopoFault.{TopoFault}
use Rattle.topology.specs.declared.faults.TopoFault.TheVariants.{NoMemory, Width, Name, Loop, Nodes, Links, Few, Apart}
use Rattle.topology.specs.Names.{row_at, name_at, is_name}
use Rattle.topology.specs.Topology.{names_of, links_of, topo_of}

-- the fault of a row that comes after these: the first of the five that applies
unfoldable pub row_fault : List Row → Row → ℕ → Option TopoFault
row_fault before row number =
    if nat_lt (length row) 2 then Some (Width number)
    else if not (is_name (name_at row 0) && is_name (name_at row 1)) then Some (Name number)
    else if bytes_eq (name_at row 0) (name_at row 1) then Some (Loop number)
    else if nat_lt node_limit (length (names_of (before ++ row ∷ []))) then Some (Nodes number)
    else if nat_lt link_limit (length (links_of (before ++ row ∷ []))) then Some (Links number)
    else None

-- how many rows at the start are not examined
abbrev pub skipped : Bool → ℕ
skipped true = 1
skipped false = 0

-- the rows that are examined: with a header, all but the first
abbrev pub examined : Bool → List Row → List Row
examined header rows = drop (skipped header) rows

-- the fault of the row at place i, by the rows up to it alone; rows are numbered from 1
abbrev pub fault_at : Bool → List Row → ℕ → Option TopoFault
fault_at header rows i = row_fault (examined header (take i rows)) (row_at rows i) (i + 1)

-- no examined row before place i has a fault
abbrev pub AllFine : Bool → List Row → ℕ → Type 0
AllFine header rows i = (k : ℕ) → skipped header ≤ k → k < i → fault_at header rows k ≡ None

-- the first examined row that has a fault has this one
pub record IsFirstRowFault (header : Bool) (rows : List Row) (fault : TopoFault) : Type 0 where
  pub place : ℕ
  pub after_header : skipped header ≤ place
  pub within : place < length rows
  pub fine : AllFine header rows place
  pub here : fault_at header rows place ≡ Some fault

-- v is the least node that no walk joins to node 0
pub record IsFirstApart (g : Network) (v : ℕ) : Type 0 where
  pub node : v < g.nodes
  pub apart : Reaches g everything 0 v → ⊥
  pub least : (w : ℕ) → w < v → Reaches g everything 0 w

-- the graph is unfit for a topology: it has few nodes, or a node is apart
abbrev pub IsUnfit : Network → TopoFault → Type 0
IsUnfit g NoMemory = ⊤
IsUnfit g (Width r) = ⊥
IsUnfit g (Name r) = ⊥
IsUnfit g (Loop r) = ⊥
IsUnfit g (Nodes r) = ⊥
IsUnfit g (Links r) = ⊥
IsUnfit g (Few n) = (n ≡ g.nodes) × (n < 3)
IsUnfit g (Apart v) = (3 ≤ g.nodes) × IsFirstApart g v

-- no row has a fault, and the graph of the rows has this one
abbrev pub HasUnfitGraph : Bool → List Row → TopoFault → Type 0
HasUnfitGraph header rows fault = AllFine header rows (length rows) × IsUnfit (topo_of (examined header rows)).graph fault

-- the first fault of the rows: that of the first row that has one, and else that of their graph
abbrev pub IsTopoFault : Bool → List Row → TopoFault → Type 0
IsTopoFault header rows NoMemory = ⊤
IsTopoFault header rows (Width r) = IsFirstRowFault header rows (Width r)
IsTopoFault header rows (Name r) = IsFirstRowFault header rows (Name r)
IsTopoFault header rows (Loop r) = IsFirstRowFault header rows (Loop r)
IsTopoFault header rows (Nodes r) = IsFirstRowFault header rows (Nodes r)
IsTopoFault header rows (Links r) = IsFirstRowFault header rows (Links r)
IsTopoFault header rows (Few n) = HasUnfitGraph header rows (Few n)
IsTopoFault header rows (Apart v) = HasUnfitGraph header rows (Apart v)

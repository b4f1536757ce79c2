-- What the rows so far name, while rows are read.
use Rattle.std.specs.Prelude.{ℕ, ◌≡◌, ◌≤◌, ◌+◌, false, List, [], ◌∷◌, ◌++◌, length, All, IsTrue, bytes_eq, None, Some, ⊤}
use Rattle.std.specs.List.{IsDistinct}
use Rattle.tomo_base.specs.Limits.{link_limit, node_limit}
use Rattle.tomo_base.specs.declared.graph.Link.{Link}
use Rattle.tomo_base.specs.Network.{AreLinks}
use Rattle.rows.specs.Rows.{Row}
use Rattle.topology.specs.declared.faults.TopoFault.{TopoFault}
use Rattle.topology.specs.declared.faults.TopoFault.TheVariants.{NoMemory, Width, Name, Loop, Nodes, Links, Few, Apart}
use Rattle.topology.specs.Names.{row_at, name_at, is_name}
use Rattle.topology.specs.Topology.{names_of, links_of}
use Rattle.topology.specs.Faults.{row_fault}

-- names and links as those of a topology, but for the number of nodes and the walks between them
pub record IsDraft (names : List (List ℕ)) (links : List Link) : Type 0 where
  pub graph : AreLinks (length names) links
  pub named : All (λ name. IsTrue (is_name name)) names
  pub different : IsDistinct bytes_eq names
  pub few_nodes : length names ≤ node_limit
  pub few_links : length links ≤ link_limit

-- they are the names and the links of the rows
pub record IsDraftOf (rows : List Row) (names : List (List ℕ)) (links : List Link) : Type 0 where
  pub names_are : names ≡ names_of rows
  pub links_are : links ≡ links_of rows
  pub draft : IsDraft names links

-- the two texts are the names of the row, and they may be linked
pub record LinksNames (row : Row) (first second : List ℕ) : Type 0 where
  pub wide : 2 ≤ length row
  pub first_is : first ≡ name_at row 0
  pub second_is : second ≡ name_at row 1
  pub first_named : IsTrue (is_name first)
  pub second_named : IsTrue (is_name second)
  pub differ : bytes_eq first second ≡ false

-- the row has this fault after these rows; want of memory is no fault of the row
abbrev pub HasFault : List Row → Row → ℕ → TopoFault → Type 0
HasFault before row number NoMemory = ⊤
HasFault before row number (Width r) = row_fault before row number ≡ Some (Width r)
HasFault before row number (Name r) = row_fault before row number ≡ Some (Name r)
HasFault before row number (Loop r) = row_fault before row number ≡ Some (Loop r)
HasFault before row number (Nodes r) = row_fault before row number ≡ Some (Nodes r)
HasFault before row number (Links r) = row_fault before row number ≡ Some (Links r)
HasFault before row number (Few n) = ⊥
HasFault before row number (Apart v) = ⊥

-- the row at the place has this fault after any rows
abbrev pub HasOwnFault : List Row → ℕ → TopoFault → Type 0
HasOwnFault rows i fault = (before : List Row) → HasFault before (row_at rows i) (i + 1) fault

-- the row at the place has this fault after the rows that the draft is of
abbrev pub RefusesRow : List Row → ℕ → List (List ℕ) → List Link → TopoFault → Type 0
RefusesRow rows i names links fault = (before : List Row) → IsDraftOf before names links → HasFault before (row_at rows i) (i + 1) fault

-- it has none after the rows that the draft is of, and the new draft is that of these and the row
abbrev pub TakesRow : List Row → ℕ → List (List ℕ) → List Link → List (List ℕ) → List Link → Type 0
TakesRow rows i names links names' links' = (before : List Row) → IsDraftOf before names links
    → (row_fault before (row_at rows i) (i + 1) ≡ None) × IsDraftOf (before ++ row_at rows i ∷ []) names' links'

-- the fault is one of a row, or want of memory
abbrev pub IsOfRow : TopoFault → Type 0
IsOfRow NoMemory = ⊤
IsOfRow (Width r) = ⊤
IsOfRow (Name r) = ⊤
IsOfRow (Loop r) = ⊤
IsOfRow (Nodes r) = ⊤
IsOfRow (Links r) = ⊤
IsOfRow (Few n) = ⊥
IsOfRow (Apart v) = ⊥

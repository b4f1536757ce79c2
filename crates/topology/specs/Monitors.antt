-- The monitors that rows name, and the first row that names no node.
use Rattle.std.specs.Prelude.{ℕ, ◌≡◌, ◌<◌, ◌+◌, Bool, false, List, [], length, slice_index_or, bytes_eq, IsTrue, ⊤}
use Rattle.std.specs.List.{list_any}
use Rattle.tomo_base.specs.Sets.{members}
use Rattle.rows.specs.Rows.{Row}
use Rattle.topology.specs.declared.faults.MonFault.{MonFault}
use Rattle.topology.specs.declared.faults.MonFault.TheVariants.{NoMemory, Unknown}
use Rattle.topology.specs.Names.{row_at, name_at}

-- the row at place i names a node
unfoldable pub is_known : List (List ℕ) → List Row → ℕ → Bool
is_known names rows i = list_any (bytes_eq (name_at (row_at rows i) 0)) names

-- the nodes whose names stand in the first fields of the rows, ascending
unfoldable pub monitors_of : List (List ℕ) → List Row → List ℕ
monitors_of names rows = members (length names) (λ v. list_any (λ row. bytes_eq (name_at row 0) (slice_index_or names v [])) rows)

-- each row before place i names a node
abbrev pub AllKnown : List (List ℕ) → List Row → ℕ → Type 0
AllKnown names rows i = (k : ℕ) → k < i → IsTrue (is_known names rows k)

-- the first row that names no node; rows are numbered from 1
abbrev pub IsMonFault : List (List ℕ) → List Row → MonFault → Type 0
IsMonFault names rows NoMemory = ⊤
IsMonFault names rows (Unknown r) = (i : ℕ) × (r ≡ i + 1) × (i < length rows) × AllKnown names rows i × (is_known names rows i ≡ false)

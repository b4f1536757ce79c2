-- The nodes that rows choose to be monitors or not to be, and the first row with a fault.
use Rattle.std.specs.Prelude.{ℕ, ◌≡◌, ◌<◌, ◌≤◌, ◌+◌, Bool, true, false, not, ◌&&◌, nat_lt, List, [], length, take, slice_index_or, slice_get, bytes_eq, codes, All, Option, Some, None, if◌then◌else◌, ⊤}
use Rattle.std.specs.List.{list_any}
use Rattle.std.specs.List.Sorted.{IsStrictlyIncreasing}
use Rattle.tomo_base.specs.Sets.{has, members, Apart}
use Rattle.rows.specs.Rows.{Row}
use Rattle.topology.specs.declared.choice.Choice.{Choice}
use Rattle.topology.specs.declared.choice.Wish.{Wish}
use Rattle.topology.specs.declared.choice.Wish.TheVariants.{Must, Not}
use Rattle.topology.specs.declared.faults.ChoiceFault.{ChoiceFault}
use Rattle.topology.specs.declared.faults.ChoiceFault.TheVariants.{NoMemory, Width, Word, Unknown, Clash}
use Rattle.topology.specs.Names.{row_at, name_at}
use Rattle.topology.specs.Topology.{Topo}

-- the wish that a text says
abbrev pub wish_named : List ℕ → Option Wish
wish_named bytes =
    if bytes_eq bytes (codes "must") then Some Must
    else if bytes_eq bytes (codes "not") then Some Not
    else None

-- the wish that a row says in its first field
abbrev pub wish_of : Row → Option Wish
wish_of row = wish_named (name_at row 0)

-- the opposite wish
abbrev pub opposite : Wish → Wish
opposite Must = Not
opposite Not = Must

-- whether there is a wish, and it is this one
abbrev pub is_wish : Wish → Option Wish → Bool
is_wish Must (Some Must) = true
is_wish Not (Some Not) = true
is_wish wish said = false

-- the row says the wish of the node with this name, which stands in its second field
abbrev pub says : Wish → List ℕ → Row → Bool
says wish name row = is_wish wish (wish_of row) && bytes_eq (name_at row 1) name

-- the nodes of which the rows say the wish, ascending
unfoldable pub chosen : Wish → List (List ℕ) → List Row → List ℕ
chosen wish names rows = members (length names) (λ v. list_any (says wish (slice_index_or names v [])) rows)

-- the choice of the rows
abbrev pub choice_of : List (List ℕ) → List Row → Choice
choice_of names rows = record { must = chosen Must names rows; not = chosen Not names rows }

-- the fault of a row with a wish: no node has the name, or a row before says the opposite of that node
abbrev pub wish_fault : List (List ℕ) → List Row → Row → ℕ → Option Wish → Option ChoiceFault
wish_fault names before row number None = Some (Word number)
wish_fault names before row number (Some wish) =
    if not (list_any (bytes_eq (name_at row 1)) names) then Some (Unknown number)
    else if list_any (says (opposite wish) (name_at row 1)) before then Some (Clash number)
    else None

-- the fault of a row that comes after these: the first of the four that applies
unfoldable pub choice_fault : List (List ℕ) → List Row → Row → ℕ → Option ChoiceFault
choice_fault names before row number =
    if nat_lt (length row) 2 then Some (Width number)
    else wish_fault names before row number (wish_of row)

-- the fault of the row at place i; rows are numbered from 1
abbrev pub choice_fault_at : List (List ℕ) → List Row → ℕ → Option ChoiceFault
choice_fault_at names rows i = choice_fault names (take i rows) (row_at rows i) (i + 1)

-- no row before place i has a fault
abbrev pub AreFineChoices : List (List ℕ) → List Row → ℕ → Type 0
AreFineChoices names rows i = (k : ℕ) → k < i → choice_fault_at names rows k ≡ None

-- the row at place i has this fault; want of memory is no fault of the row
abbrev pub HasChoiceFault : List (List ℕ) → List Row → ℕ → ChoiceFault → Type 0
HasChoiceFault names rows i NoMemory = ⊤
HasChoiceFault names rows i (Width r) = choice_fault_at names rows i ≡ Some (Width r)
HasChoiceFault names rows i (Word r) = choice_fault_at names rows i ≡ Some (Word r)
HasChoiceFault names rows i (Unknown r) = choice_fault_at names rows i ≡ Some (Unknown r)
HasChoiceFault names rows i (Clash r) = choice_fault_at names rows i ≡ Some (Clash r)

-- the row at place i says the wish of a node, whose name it has
pub record HasWish (names : List (List ℕ)) (rows : List Row) (i : ℕ) (wish : Wish) (v : ℕ) : Type 0 where
  pub wide : 2 ≤ length (row_at rows i)
  pub said : wish_of (row_at rows i) ≡ Some wish
  pub known : slice_get names v ≡ Some (name_at (row_at rows i) 1)

-- the first row that has a fault has this one
abbrev pub IsChoiceFault : List (List ℕ) → List Row → ChoiceFault → Type 0
IsChoiceFault names rows fault = (i : ℕ) × (i < length rows) × AreFineChoices names rows i × HasChoiceFault names rows i fault

-- the nodes of which the rows say the wish: an ascending list
pub record IsChosen (t : Topo) (rows : List Row) (wish : Wish) (set : List ℕ) : Type 0 where
  pub named : (v : ℕ) → has set v ≡ (nat_lt v (length t.names) && list_any (says wish (slice_index_or t.names v [])) rows)
  pub below : All (λ v. v < t.graph.nodes) set
  pub ascending : IsStrictlyIncreasing set

-- the nodes of either wish in a choice
abbrev pub wished : Choice → Wish → List ℕ
wished choice Must = choice.must
wished choice Not = choice.not

-- the choice that the rows say, none of which has a fault
pub record IsChoiceOf (t : Topo) (rows : List Row) (choice : Choice) : Type 0 where
  pub each : (wish : Wish) → IsChosen t rows wish (wished choice wish)
  pub apart : Apart (has choice.must) (has choice.not)

-- The faults of rows that are no plan: at a row, by the rows before it, and the first of all.
use Rattle.std.specs.Prelude.{ℕ, ◌≡◌, ◌+◌, ◌<◌, ◌==◌, nat_le, nat_lt, Bool, true, false, ◌&&◌, cond, List, [], ◌∷◌, ◌++◌, length, Option, Some, None, ◌⊎◌, ⊤, IsTrue, decimal, bytes_eq}
use Rattle.tomo_base.specs.Sets.{one_if}
use Rattle.rows.specs.Rows.{Row}
use Rattle.plan_form.specs.declared.faults.PlanFault.{PlanFault}
use Rattle.plan_form.specs.declared.faults.PlanFault.TheVariants as faults
use Rattle.plan_form.specs.declared.kinds.Kind.{Kind}
use Rattle.plan_form.specs.declared.kinds.Kind.TheVariants as kinds
use Rattle.plan_form.specs.Kinds.{newest_format, oldest_format, row_kind, place, is_numbered, field}
use Rattle.plan_form.specs.Parts.{IsSmall}
use Rattle.plan_form.specs.PlanRows.{Item, IsItem, row_of}

-- the row tells an item of the kind, with the number i where the kind is numbered
pub record IsRow (k : Kind) (i : ℕ) (row : Row) : Type 0 where
  pub item : Item k
  pub fits : IsItem k item
  pub small : IsTrue (is_numbered k) → IsSmall i
  pub row_is : row ≡ row_of k i item

-- whether there is a kind, and it is k
abbrev pub is_kind : Option Kind → Kind → Bool
is_kind None k = false
is_kind (Some j) k = place j == place k

-- the row is the plan row of the newest format
abbrev pub is_newest : Row → Bool
is_newest row = is_kind (row_kind newest_format row) kinds.Plan && bytes_eq (field row 1) (decimal newest_format)

-- the format of rows: the newest where the first is its plan row, else the oldest
abbrev pub format_of : List Row → ℕ
format_of [] = oldest_format
format_of (row ∷ rows) = cond (is_newest row) newest_format oldest_format

-- how many rows are of the kind
unfoldable pub counted : ℕ → Kind → List Row → ℕ
counted format k [] = 0
counted format k (row ∷ rows) = one_if (is_kind (row_kind format row) k) + counted format k rows

-- the kind of the last row
unfoldable pub last_kind : ℕ → List Row → Option Kind
last_kind format [] = None
last_kind format (row ∷ []) = row_kind format row
last_kind format (row ∷ next ∷ rows) = last_kind format (next ∷ rows)

-- a row of the kind may come after one of the kind `last`: the first row is the plan row, no later one is, and no kind comes after a later one
abbrev pub may_follow : Option Kind → Kind → Bool
may_follow None k = place k == 0
may_follow (Some last) k = nat_lt 0 (place k) && nat_le (place last) (place k)

-- it may come after these rows
abbrev pub is_in_order : ℕ → List Row → Kind → Bool
is_in_order format before k = may_follow (last_kind format before) k

-- no end row stood before, and the row is of the kind
pub record IsOf (format : ℕ) (before : List Row) (row : Row) (k : Kind) : Type 0 where
  pub open_yet : counted format kinds.End before ≡ 0
  pub is_kind : row_kind format row ≡ Some k

-- no fault: the row is of a kind that may stand there, and has the number of its place
pub record IsNext (format : ℕ) (before : List Row) (row : Row) : Type 0 where
  pub kind : Kind
  pub is_of : IsOf format before row kind
  pub in_order : is_in_order format before kind ≡ true
  pub is_row : IsRow kind (counted format kind before) row

-- why a row is at fault
pub data Why : Type 0 where
  Late : Why
  Unknown : Why
  Misplaced : Why
  Misspelled : Why
  Misnumbered : Why

-- the faults of a row after these, each only where none before it in this list applies
abbrev pub FaultAt : ℕ → List Row → Row → Why → Type 0
FaultAt format before row Late = 0 < counted format kinds.End before
FaultAt format before row Unknown = (counted format kinds.End before ≡ 0) × (row_kind format row ≡ None)
FaultAt format before row Misplaced = (k : Kind) × IsOf format before row k × (is_in_order format before k ≡ false)
FaultAt format before row Misspelled = (k : Kind) × IsOf format before row k × (is_in_order format before k ≡ true) × ((i : ℕ) → IsRow k i row → ⊥)
FaultAt format before row Misnumbered =
    (k : Kind) × IsOf format before row k × (is_in_order format before k ≡ true) × ((i : ℕ) × IsRow k i row) × (IsRow k (counted format k before) row → ⊥)

-- from the rows before on, no row has a fault
abbrev pub AreNext : ℕ → List Row → List Row → Type 0
AreNext format before [] = ⊤
AreNext format before (row ∷ rows) = IsNext format before row × AreNext format (before ++ row ∷ []) rows

-- the row with that number, counted from 1, is the first with a fault
pub record IsFirstAt (format : ℕ) (rows : List Row) (number : ℕ) (why : Why) : Type 0 where
  pub before : List Row
  pub row : Row
  pub after : List Row
  pub parts : rows ≡ before ++ row ∷ after
  pub number_is : number ≡ length before + 1
  pub fine : AreNext format [] before
  pub fault : FaultAt format before row why

-- no row has a fault, and none of the rows, so many, is the end row
pub record IsUnended (format : ℕ) (rows : List Row) (count : ℕ) : Type 0 where
  pub count_is : count ≡ length rows
  pub fine : AreNext format [] rows
  pub open_yet : counted format kinds.End rows ≡ 0

-- the first fault of rows that are no plan of the format
abbrev pub IsFirstFaultIn : ℕ → List Row → PlanFault → Type 0
IsFirstFaultIn format rows faults.NoMemory = ⊤
IsFirstFaultIn format rows (faults.Record n) = IsFirstAt format rows n Unknown
IsFirstFaultIn format rows (faults.Number n) = IsFirstAt format rows n Misspelled
IsFirstFaultIn format rows (faults.Order n) = IsFirstAt format rows n Misplaced ⊎ IsFirstAt format rows n Misnumbered
IsFirstFaultIn format rows (faults.Missing n) = IsUnended format rows n
IsFirstFaultIn format rows (faults.After n) = IsFirstAt format rows n Late

-- the first fault of rows that are no plan, in the format that the first row tells
abbrev pub IsFirstPlanFault : List Row → PlanFault → Type 0
IsFirstPlanFault rows fault = IsFirstFaultIn (format_of rows) rows fault

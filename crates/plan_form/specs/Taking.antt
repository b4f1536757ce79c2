-- What the steps of reading a plan do with a row.
use Rattle.std.specs.Prelude.{ℕ, ◌≡◌, ◌≢◌, ◌+◌, ◌<◌, ◌^◌, ◌==◌, true, false, cond, List, [], ◌∷◌, ◌++◌, length, Option, Some, None, ⊤, IsTrue, decimal}
use Rattle.rows.specs.Rows.{Row, row_bytes, byte_count}
use Rattle.topology.specs.Names.{row_at}
use Rattle.plan_form.specs.declared.faults.PlanFault.{PlanFault}
use Rattle.plan_form.specs.declared.faults.PlanFault.TheVariants as faults
use Rattle.plan_form.specs.declared.kinds.Kind.{Kind}
use Rattle.plan_form.specs.declared.kinds.Kind.TheVariants as kinds
use Rattle.plan_form.specs.Kinds.{newest_format, field, is_numbered, is_record, row_kind, place, word}
use Rattle.plan_form.specs.Parts.{PlanParts, IsSmall}
use Rattle.plan_form.specs.PlanRows.{Item, IsItem, items, row_of, rows_of_kind}
use Rattle.plan_form.specs.Reading.{IsRow, is_kind, may_follow}
use Rattle.plan_form.specs.Values.{Spells}

-- a plan without any part
abbrev pub no_parts : PlanParts
no_parts = record { names = []; links = []; forced = []; barred = []; monitors = []; pockets = []; paths = []; recipes = [] }

-- rows of the kind say what stands in the plan: all but the plan row and the end row
abbrev pub IsPart : Kind → Type 0
IsPart k = (0 < place k) × (place k < place kinds.End)

-- the items that are told by rows of such a kind, in whatever format
abbrev pub told_items : PlanParts → (k : Kind) → List (Item k)
told_items p k = items newest_format p k

-- and these rows
abbrev pub told_rows : PlanParts → Kind → List Row
told_rows p k = rows_of_kind newest_format p k

-- the row with that number, from 0, is a record of the kind, and its number fits 32 bits
pub record IsRecordAt (k : Kind) (rows : List Row) (row : ℕ) : Type 0 where
  pub within : row < length rows
  pub number : row + 1 < 2 ^ 32
  pub begins : field (row_at rows row) 0 ≡ word k
  pub record_is : is_record (row_at rows row) k ≡ true

-- the row tells the item that was added to those of its kind, with its number
pub record AddsItem (k : Kind) (row : Row) (old new : List (Item k)) : Type 0 where
  pub item : Item k
  pub fits : IsItem k item
  pub small : IsTrue (is_numbered k) → IsSmall (length old)
  pub row_is : row ≡ row_of k (length old) item
  pub more : new ≡ old ++ item ∷ []

-- the row is the next of its kind, and the plan has it besides
pub record TakesItem (k : Kind) (row : Row) (old new : PlanParts) : Type 0 where
  pub is_row : IsRow k (length (told_items old k)) row
  pub rows : (j : Kind) → IsPart j → told_rows new j ≡ told_rows old j ++ cond (place k == place j) (row ∷ []) []

-- the number that is spelled so is not the next, which is i: it is misspelled, or another one; n is the row
abbrev pub RefusesNumber : ℕ → ℕ → List ℕ → PlanFault → Type 0
RefusesNumber i n text (faults.Number m) = (m ≡ n) × Spells IsSmall decimal text None
RefusesNumber i n text (faults.Order m) = (m ≡ n) × (j : ℕ) × (j ≢ i) × Spells IsSmall decimal text (Some j)
RefusesNumber i n text _ = ⊥

-- the text that is to be a node is no number; n is the row
abbrev pub RefusesNode : ℕ → List ℕ → PlanFault → Type 0
RefusesNode n text faults.NoMemory = ⊤
RefusesNode n text (faults.Number m) = (m ≡ n) × Spells IsSmall decimal text None
RefusesNode n text _ = ⊥

-- the row with number n is not the next of its kind, of which there were i: it is misspelled, or has another number
abbrev pub RefusesItem : Kind → ℕ → ℕ → Row → PlanFault → Type 0
RefusesItem k i n row faults.NoMemory = ⊤
RefusesItem k i n row (faults.Record m) = ⊥
RefusesItem k i n row (faults.Number m) = (m ≡ n) × ((j : ℕ) → IsRow k j row → ⊥)
RefusesItem k i n row (faults.Order m) = (m ≡ n) × ((j : ℕ) × IsRow k j row) × (IsRow k i row → ⊥)
RefusesItem k i n row (faults.Missing m) = ⊥
RefusesItem k i n row (faults.After m) = ⊥

-- the row is of a kind that may come after `last`
pub record IsNextKind (format : ℕ) (last : Option Kind) (row : Row) (k : Kind) : Type 0 where
  pub open_yet : is_kind last kinds.End ≡ false
  pub kind : row_kind format row ≡ Some k
  pub in_order : may_follow last k ≡ true

-- the row with number n is of no such kind
abbrev pub RefusesKind : ℕ → Option Kind → ℕ → Row → PlanFault → Type 0
RefusesKind format last n row faults.NoMemory = ⊤
RefusesKind format last n row (faults.Record m) = (m ≡ n) × (is_kind last kinds.End ≡ false) × (row_kind format row ≡ None)
RefusesKind format last n row (faults.Number m) = ⊥
RefusesKind format last n row (faults.Order m) = (m ≡ n) × (is_kind last kinds.End ≡ false) × ((k : Kind) × (row_kind format row ≡ Some k) × (may_follow last k ≡ false))
RefusesKind format last n row (faults.Missing m) = ⊥
RefusesKind format last n row (faults.After m) = (m ≡ n) × (is_kind last kinds.End ≡ true)

-- there is room for a row more
pub record HasRoom (row : Row) (p : PlanParts) : Type 0 where
  pub numbers : (k : Kind) → IsPart k → length (told_items p k) + 1 < 2 ^ 32
  pub bytes : byte_count (told_rows p kinds.Path) + row_bytes row < 2 ^ 31

-- The first fault of rows that are no rounds. Rows and fields are numbered from 1.
use Rattle.std.specs.Prelude.{ℕ, ◌≡◌, ◌≢◌, ◌+◌, ◌<◌, List, [], length, slice_index_or, ⊤}
use Rattle.rows.specs.Rows.{Row}
use Rattle.round_reader.specs.declared.faults.RoundFault.{RoundFault}
use Rattle.round_reader.specs.declared.faults.RoundFault.TheVariants.{NoMemory, Width, Number}
use Rattle.round_reader.specs.Sums.{IsSum, field_at, IsRound}

-- the field at place k is the first that is no sum
pub record IsFirstOther (row : Row) (k : ℕ) : Type 0 where
  pub within : k < length row
  pub before : (j : ℕ) → j < k → (v : ℕ) × IsSum (field_at row j) v
  pub here : (v : ℕ) → IsSum (field_at row k) v → ⊥

-- the fault of the row at place i
abbrev pub IsRowFault : ℕ → Row → ℕ → RoundFault → Type 0
IsRowFault paths row i NoMemory = ⊤
IsRowFault paths row i (Width r) = (r ≡ i + 1) × (length row ≢ paths)
IsRowFault paths row i (Number r f) = (r ≡ i + 1) × (length row ≡ paths) × (k : ℕ) × (f ≡ k + 1) × IsFirstOther row k

-- the row at place i has this fault, and each before it is a round
pub record IsFaultAt (paths : ℕ) (rows : List Row) (fault : RoundFault) : Type 0 where
  pub place : ℕ
  pub within : place < length rows
  pub before : (j : ℕ) → j < place → (sums : List ℕ) × IsRound paths (slice_index_or rows j []) sums
  pub here : IsRowFault paths (slice_index_or rows place []) place fault

-- the first fault of the rows
abbrev pub IsFirstRoundFault : ℕ → List Row → RoundFault → Type 0
IsFirstRoundFault paths rows NoMemory = ⊤
IsFirstRoundFault paths rows (Width r) = IsFaultAt paths rows (Width r)
IsFirstRoundFault paths rows (Number r f) = IsFaultAt paths rows (Number r f)

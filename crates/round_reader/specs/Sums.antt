-- Sums in fields, and the rounds of rows.
use Rattle.std.specs.Prelude.{ℕ, ◌≡◌, ◌<◌, ◌≤◌, List, [], length, slice_index_or}
use Rattle.std.specs.Str.Parse.{AllDigits, digits_value}
use Rattle.tomo_base.specs.Limits.{sum_limit}
use Rattle.rows.specs.Rows.{Row}
use Rattle.rows.specs.Blanks.{trimmed}

-- without the blanks at its ends the field is 1 to 20 digits, and their value is v
pub record IsSum (field : List ℕ) (v : ℕ) : Type 0 where
  pub some : 0 < length (trimmed field)
  pub few : length (trimmed field) ≤ 20
  pub digits : AllDigits 10 (trimmed field)
  pub value : v ≡ digits_value 10 (trimmed field)
  pub bounded : v ≤ sum_limit

-- the field of a row at a place
abbrev pub field_at : Row → ℕ → List ℕ
field_at row k = slice_index_or row k []

-- a row is a round: one sum for each path
pub record IsRound (paths : ℕ) (row : Row) (sums : List ℕ) : Type 0 where
  pub width : length row ≡ paths
  pub one_each : length sums ≡ paths
  pub each : (k : ℕ) → k < paths → IsSum (field_at row k) (slice_index_or sums k 0)

-- each row is a round
pub record AreRounds (paths : ℕ) (rows : List Row) (rounds : List (List ℕ)) : Type 0 where
  pub one_each : length rounds ≡ length rows
  pub each : (i : ℕ) → i < length rows → IsRound paths (slice_index_or rows i []) (slice_index_or rounds i [])

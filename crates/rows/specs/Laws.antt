-- What holds of printed and of read rows.
use Rattle.std.specs.Prelude.{ℕ, ◌≡◌, ◌+◌, ◌<◌, ◌≤◌, List, length, All, false}
use Rattle.std.specs.List.{sum_by}
use Rattle.rows.specs.Rows.{Row, rows_of, text_of, AllFilled, byte_count, row_size, first_field, begins_with_mark}

-- rows that are printed are read back as they were, where each has a field and the first field
-- doesn't begin with a byte order mark
abbrev pub ReadsBack : Type 0
ReadsBack = (rows : List Row) → AllFilled rows → begins_with_mark (first_field rows) ≡ false → rows_of (text_of rows) ≡ rows

-- the fields of a text have no more bytes in all than the text
abbrev pub FieldsFit : Type 0
FieldsFit = (bytes : List ℕ) → byte_count (rows_of bytes) ≤ length bytes

-- a text has no more rows than bytes; each row has a field, and at most one field more than the
-- text has bytes
abbrev pub RowsFit : Type 0
RowsFit = (bytes : List ℕ)
    → (length (rows_of bytes) ≤ length bytes)
    × All (λ row. (0 < length row) × (length row ≤ length bytes + 1)) (rows_of bytes)

-- the text of rows has no more bytes than their fields call for
abbrev pub TextFits : Type 0
TextFits = (rows : List Row) → length (text_of rows) ≤ sum_by row_size rows

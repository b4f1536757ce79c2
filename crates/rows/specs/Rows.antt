-- Rows of fields, as they are listed, read and printed.
use Rattle.std.specs.Prelude.{ℕ, ◌+◌, ◌*◌, ◌<◌, ◌^◌, ◌==◌, ◌||◌, not, if◌then◌else◌, List, [], ◌∷◌, length, All, Bool, true, nat_eq, slice_index_or}
use Rattle.std.specs.List.{flat_map, list_all, starts_with, sum_by}
use Rattle.csv.specs.Reading.{default_config, records, strip_bom}
use Rattle.csv.specs.Writing.{default_writer, row_text, with_flexible}
use Rattle.csv.specs.declared.writer.WriterBuilder.{WriterBuilder}

-- a row is its fields, and a field is its bytes
abbrev pub Row : Type 0
Row = List (List ℕ)

-- closed rows, and the fields of the open row
pub record RowList : Type 0 where
  pub closed : List Row
  pub current : Row

-- a row has at least one field, and no more than can be counted in 32 bits
abbrev pub IsFullRow : Row → Type 0
IsFullRow row = (0 < length row) × (length row < 2 ^ 32)

-- what each list of rows keeps: a closed row has a field, and all counts fit 32 bits
pub record IsCountable (rows : RowList) : Type 0 where
  pub count : length rows.closed < 2 ^ 32
  pub each : All IsFullRow rows.closed
  pub current : length rows.current < 2 ^ 32

-- how many bytes the fields of a row have in all
abbrev pub row_bytes : Row → ℕ
row_bytes row = sum_by (λ (field : List ℕ). length field) row

-- the records of a text, after one byte order mark
abbrev pub rows_of : List ℕ → List Row
rows_of bytes = records default_config (strip_bom bytes)

-- the settings of the writer: those of `csv`, and rows may have different lengths
abbrev pub writer : WriterBuilder
writer = with_flexible default_writer true

-- the text of rows, each ended by a line feed
abbrev pub text_of : List Row → List ℕ
text_of rows = flat_map (row_text writer) rows

-- each row has at least one field
abbrev pub AllFilled : List Row → Type 0
AllFilled rows = All (λ row. 0 < length row) rows

-- how many bytes the fields of all rows have in all
abbrev pub byte_count : List Row → ℕ
byte_count rows = sum_by row_bytes rows

-- the first field of the first row, empty where there is none
abbrev pub first_field : List Row → List ℕ
first_field rows = slice_index_or (slice_index_or rows 0 []) 0 []

-- whether a field begins with the byte order mark
abbrev pub begins_with_mark : List ℕ → Bool
begins_with_mark field = starts_with nat_eq field (0xEF ∷ 0xBB ∷ 0xBF ∷ [])

-- whether a field is printed as it stands: it has no comma, no quote and no line's end
abbrev pub is_plain : List ℕ → Bool
is_plain field = list_all (λ b. not ((b == 44) || (b == 34) || (b == 13) || (b == 10))) field

-- how many bytes a printed field has at most: in quotes, each of its bytes may be a doubled quote
abbrev pub field_size : List ℕ → ℕ
field_size field = if is_plain field then length field else 2 * length field + 2

-- how many bytes a printed row has at most: each field with what ends it, and what stands for a
-- row that shows no byte
abbrev pub row_size : Row → ℕ
row_size row = sum_by (λ field. field_size field + 1) row + 3

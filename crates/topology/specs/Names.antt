-- Names in the fields of rows.
use Rattle.std.specs.Prelude.{ℕ, Bool, ◌&&◌, nat_le, List, [], length, slice_index_or}
use Rattle.std.specs.Str.{is_utf8}
use Rattle.rows.specs.Rows.{Row}
use Rattle.rows.specs.Blanks.{trimmed}

-- the row at a place
abbrev pub row_at : List Row → ℕ → Row
row_at rows i = slice_index_or rows i []

-- the name in a field of a row
abbrev pub name_at : Row → ℕ → List ℕ
name_at row k = trimmed (slice_index_or row k [])

-- what may be a name: 1 to 64 bytes of UTF-8
unfoldable pub is_name : List ℕ → Bool
is_name bytes = nat_le 1 (length bytes) && nat_le (length bytes) 64 && is_utf8 bytes

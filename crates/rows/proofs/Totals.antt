-- The rows of a text, and the bytes of their fields, are no more than its bytes.
use Rattle.std.proofs.Common.{◌≡◌, refl, ℕ, ◌+◌, ◌<◌, ◌≤◌, List, [], length, false, Option, Some, None, arith, zero, suc}
use Rattle.std.specs.Prelude.{All}
use Rattle.std.proofs.lemmas.List.Elements.{All-nil, All-cons}
use Rattle.std.proofs.lemmas.List.Sums.{sum_by-cons}
use Rattle.csv.specs.Machine.{next_record, ends_at_end, Read}
use Rattle.csv.specs.Reading.{default_config, records_from, records_next, strip_bom}
use Rattle.csv.specs.declared.parser.State.{State}
use Rattle.csv.specs.declared.parser.State.TheVariants as st
use Rattle.rows.specs.Rows.{Row, row_bytes, byte_count}
use Rattle.rows.specs.Laws.{FieldsFit, RowsFit}
use Rattle.rows.proofs.Records.{read-filled, read-shortens}
use Rattle.rows.proofs.Sizes.{read-size, strip-short}

-- what holds of a row of so many bytes of text, and of all its rows
abbrev IsWithin : ℕ → Row → Type 0
IsWithin size row = (0 < length row) × (length row ≤ size + 1)

record AreWithin (rows : List Row) (size : ℕ) : Type 0 where
  count : length rows ≤ size
  bytes : byte_count rows ≤ size
  each : All (IsWithin size) rows

-- the first row, and those after it
next-within : (s : State) (xs : List ℕ) (more : State → List ℕ → List Row) → ends_at_end s ≡ false
    → ((s2 : State) (ys : List ℕ) → ends_at_end s2 ≡ false → AreWithin (more s2 ys) (length ys))
    → (o : Option Read) → next_record default_config s [] [] xs ≡ o → AreWithin (records_next more o) (length xs)
next-within s xs more between rest None e = record { count = omega arith; bytes = omega arith; each = All-nil (IsWithin (length xs)) }
next-within s xs more between rest (Some q) e =
    let short = read-shortens s [] [] xs q e in
    let less = short.shorter between in
    let size = read-size default_config s [] [] xs q e in
    let filled = read-filled default_config s [] [] xs q e in
    let after = rest q.1 q.2 short.between in
    let count = after.count in
    let bytes = after.bytes in
    record {
      count = omega (arith, count, less);
      bytes = omega (arith, bytes, size, filled, sum_by-cons row_bytes q.0 (more q.1 q.2));
      each = All-cons (IsWithin (length xs)) q.0 (more q.1 q.2) (filled, omega (arith, size))
          (λ k d lt. let within = after.each k d lt in (within.0, omega (arith, within.1, less)));
    }

-- the rows of a text, from a state between two records
from-within : (n : ℕ) (s : State) (xs : List ℕ) → ends_at_end s ≡ false → AreWithin (records_from default_config n s xs) (length xs)
unfolding records_from
from-within zero s xs between = record { count = omega arith; bytes = omega arith; each = All-nil (IsWithin (length xs)) }
from-within (suc n) s xs between = next-within s xs (records_from default_config n) between (from-within n) (next_record default_config s [] [] xs) refl

text-within : (bytes : List ℕ) → AreWithin (records_from default_config (length (strip_bom bytes) + 1) st.StartRecord (strip_bom bytes)) (length (strip_bom bytes))
text-within bytes = from-within (length (strip_bom bytes) + 1) st.StartRecord (strip_bom bytes) refl

pub fields-fit : FieldsFit
fields-fit bytes =
    let within = (text-within bytes).bytes in
    omega (arith, within, strip-short bytes)

pub rows-fit : RowsFit
rows-fit bytes =
    let within = text-within bytes in
    let short = strip-short bytes in (
      omega (arith, within.count, short),
      λ k d lt. let row = within.each k d lt in (row.0, omega (arith, row.1, short)),
    )

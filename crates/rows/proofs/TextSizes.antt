-- The text of rows is no longer than their fields call for.
use Rattle.std.proofs.Common.{◌≡◌, refl, ℕ, ◌+◌, ◌*◌, ◌≤◌, ◌==◌, ◌||◌, ◌&&◌, not, List, [], ◌∷◌, ◌++◌, length, Bool, true, false, arith, length-append, inl, inr}
use Rattle.std.specs.Prelude.{if◌then◌else◌}
use Rattle.std.specs.List.{sum_by}
use Rattle.std.proofs.lemmas.Bool.{cases_Bool}
use Rattle.std.proofs.lemmas.List.Sums.{sum_by-cons}
use Rattle.csv.specs.Writing.{row_text, fields_text, field_text, escaped, is_blank, needs_quotes}
use Rattle.rows.specs.Rows.{Row, writer, text_of, is_plain, field_size, row_size}
use Rattle.rows.specs.Laws.{TextFits}

-- no byte calls for quotes where none is a comma, a quote or a line's end
plain-byte : (a b c d : Bool) (rest : Bool) → not (((((a || b) || (c || d)) || false) || false) || rest) ≡ (not (((a || b) || c) || d) && not rest)
plain-byte true b c d rest = refl
plain-byte false true c d rest = refl
plain-byte false false true d rest = refl
plain-byte false false false true rest = refl
plain-byte false false false false rest = refl

plain-unquoted : (field : List ℕ) → not (needs_quotes writer field) ≡ is_plain field
plain-unquoted [] = refl
plain-unquoted (b ∷ rest) = rw (← plain-unquoted rest) (plain-byte (b == 44) (b == 34) (b == 13) (b == 10) (needs_quotes writer rest))

-- between quotes each byte may be doubled
escaped-size : (field : List ℕ) → length (escaped writer field) ≤ 2 * length field
unfolding escaped
escaped-size [] = omega arith
escaped-size (b ∷ rest) =
    let more = escaped-size rest in
    elim (cases_Bool (b == 34)) [
      | inl quote ↦ rw quote (omega (arith, more))
      | inr other ↦ rw other (omega (arith, more))
    ]

field-size : (field : List ℕ) → length (field_text writer field) ≤ field_size field
field-size field =
    let escapes = escaped-size field in
    let same = plain-unquoted field in
    elim (cases_Bool (needs_quotes writer field)) [
      | inl needs ↦ rw (← same, needs) (omega (arith, escapes, length-append (escaped writer field) (34 ∷ [])))
      | inr bare ↦ rw (← same, bare) (omega arith)
    ]

-- the fields after the first, each with its comma
fields-size : (fields : Row) → length (fields_text writer fields) ≤ sum_by (λ field. field_size field + 1) fields
unfolding fields_text
fields-size [] = omega arith
fields-size (field ∷ rest) =
    let first = field-size field in
    let more = fields-size rest in
    omega (arith, first, more, length-append (field_text writer field) (fields_text writer rest), sum_by-cons (λ (f : List ℕ). field_size f + 1) field rest)

-- what stands for a row that shows no byte, and the line's end
abbrev pub row_end : Bool → List ℕ
row_end blank = (if blank then 34 ∷ 34 ∷ [] else []) ++ 10 ∷ []

end-size : (blank : Bool) → length (row_end blank) ≤ 3
end-size true = omega arith
end-size false = omega arith

row-size : (row : Row) → length (row_text writer row) ≤ row_size row
row-size [] = end-size (is_blank writer [])
row-size (field ∷ rest) =
    let first = field-size field in
    let more = fields-size rest in
    let shown = field_text writer field ++ fields_text writer rest in
    let end = row_end (is_blank writer (field ∷ rest)) in
    let small = end-size (is_blank writer (field ∷ rest)) in
    omega (arith, first, more, small, length-append shown end, length-append (field_text writer field) (fields_text writer rest), sum_by-cons (λ (f : List ℕ). field_size f + 1) field rest)

pub text-fits : TextFits
text-fits [] = omega arith
text-fits (row ∷ rows) =
    let first = row-size row in
    let more = text-fits rows in
    omega (arith, first, more, length-append (row_text writer row) (text_of rows), sum_by-cons row_size row rows)

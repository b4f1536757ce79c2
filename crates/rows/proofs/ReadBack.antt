-- What is printed is read back.
use Rattle.std.proofs.Common.{◌≡◌, ◌∙◌, refl, ℕ, ◌<◌, ◌∷◌, ◌++◌, ◌==◌, ◌&&◌, List, [], length, arith, None, Bool, true, false, inl, inr, append_assoc, suc}
use Rattle.std.proofs.lemmas.Bool.{cases_Bool}
use Rattle.std.proofs.lemmas.Bool.Decides.{nat_tests}
use Rattle.std.proofs.Math.Bool.{and-false}
use Rattle.csv.specs.Machine.{next_record}
use Rattle.csv.specs.Reading.{default_config, strip_bom, is_bom, Reached}
use Rattle.csv.specs.Writing.{default_writer, row_text, fields_text, field_text, escaped, read_back, is_blank, needs_quotes}
use Rattle.csv.specs.declared.parser.State.TheVariants as st
use Rattle.csv.proofs.RoundTrip.{read-write}
use Rattle.rows.specs.Rows.{Row, writer, text_of, AllFilled, first_field, begins_with_mark}
use Rattle.rows.specs.Laws.{ReadsBack}
use Rattle.rows.proofs.Records.{all-records}
use Rattle.rows.proofs.TextSizes.{row_end}

-- a writer of rows of any length writes each row as the default writer does
same-escaped : (field : List ℕ) → escaped writer field ≡ escaped default_writer field
unfolding escaped
same-escaped [] = refl
same-escaped (b ∷ rest) = rw (same-escaped rest) refl

same-field : (field : List ℕ) → field_text writer field ≡ field_text default_writer field
same-field field = rw (same-escaped field) refl

same-fields : (fields : Row) → fields_text writer fields ≡ fields_text default_writer fields
unfolding fields_text
same-fields [] = refl
same-fields (field ∷ rest) = rw (same-field field, same-fields rest) refl

same-row : (fields : Row) → row_text writer fields ≡ row_text default_writer fields
unfolding is_blank
same-row [] = refl
same-row (field ∷ []) = rw (same-field field, same-fields []) refl
same-row (field ∷ next ∷ rest) = rw (same-field field, same-fields (next ∷ rest)) refl

-- a row with a field reads back as it is
filled-back : (row : Row) → 0 < length row → read_back row ≡ row
filled-back [] lt = absurd (omega arith)
filled-back (x ∷ rest) lt = refl

-- the records of a printed text, one by one
reached-printed : (rows : List Row) → AllFilled rows → Reached default_config st.StartRecord (text_of rows) rows st.StartRecord []
unfolding Reached
reached-printed [] all = (refl, refl)
reached-printed (row ∷ rows) all = (
  (row, st.StartRecord, text_of rows),
  rw (same-row row) (read-write row (text_of rows) ∙ rw (filled-back row (all 0 [] (omega arith))) refl),
  refl,
  reached-printed rows (λ k d lt. all (suc k) d (omega arith)),
)

end-of-text : next_record default_config st.StartRecord [] [] [] ≡ None
unfolding next_record
end-of-text = refl

-- a byte that isn't of the mark
abbrev IsNoMark : ℕ → Type 0
IsNoMark b = ((b == 0xEF) ≡ false) × ((b == 0xBB) ≡ false) × ((b == 0xBF) ≡ false)

-- a text that begins with another byte than the mark's first keeps its start
other-first : (a : ℕ) (rest : List ℕ) → (a == 0xEF) ≡ false → strip_bom (a ∷ rest) ≡ a ∷ rest
unfolding strip_bom
other-first a [] other = refl
other-first a (b ∷ []) other = refl
other-first a (b ∷ c ∷ rest) other = rw other refl

-- the test of the mark, as `csv` writes it and as a prefix
eq-flip : (a b : ℕ) → (a == b) ≡ (b == a)
eq-flip a b = grind (arith, nat_tests)

and-grouped : (x y z : Bool) → ((x && y) && z) ≡ (x && (y && (z && true)))
and-grouped false y z = refl
and-grouped true false z = refl
and-grouped true true false = refl
and-grouped true true true = refl

mark-same : (a b c : ℕ) (rest : List ℕ) → is_bom a b c ≡ begins_with_mark (a ∷ b ∷ c ∷ rest)
mark-same a b c rest = rw (eq-flip a 0xEF, eq-flip b 0xBB, eq-flip c 0xBF) (and-grouped (0xEF == a) (0xBB == b) (0xBF == c))

-- a field that doesn't begin with the mark, and then a byte that isn't of it
kept-field : (field : List ℕ) (b : ℕ) (rest : List ℕ) → begins_with_mark field ≡ false → IsNoMark b → strip_bom (field ++ b ∷ rest) ≡ field ++ b ∷ rest
unfolding strip_bom
kept-field [] b rest plain other = other-first b rest other.0
kept-field (x ∷ []) b [] plain other = refl
kept-field (x ∷ []) b (c ∷ rest) plain other = rw (other.1, and-false) refl
kept-field (x ∷ y ∷ []) b rest plain other = rw (other.2, and-false) refl
kept-field (x ∷ y ∷ z ∷ field) b rest plain other = rw (mark-same x y z field, plain) refl

-- what stands after the first field of a row
abbrev BeginsPlain : List ℕ → Type 0
BeginsPlain [] = ⊥
BeginsPlain (b ∷ rest) = IsNoMark b

kept-start : (field rest : List ℕ) → begins_with_mark field ≡ false → BeginsPlain rest → strip_bom (field ++ rest) ≡ field ++ rest
kept-start field [] plain other = absurd other
kept-start field (b ∷ rest) plain other = kept-field field b rest plain other

-- after the first field comes a comma, a quote or the line's end
row-end-plain : (rest : Row) (blank : Bool) (more : List ℕ) → BeginsPlain (fields_text writer rest ++ (row_end blank ++ more))
unfolding fields_text
row-end-plain [] true more = (refl, refl, refl)
row-end-plain [] false more = (refl, refl, refl)
row-end-plain (field ∷ rest) blank more = (refl, refl, refl)

-- the text of a row begins with the text of its first field
kept-text : (field rest : List ℕ) → begins_with_mark field ≡ false → BeginsPlain rest → strip_bom (field_text writer field ++ rest) ≡ field_text writer field ++ rest
kept-text field rest plain other = elim (cases_Bool (needs_quotes writer field)) [
  | inl needs ↦ rw needs (other-first 34 _ refl)
  | inr bare ↦ rw bare (kept-start field rest plain other)
]

kept-row : (field : List ℕ) (rest : Row) (more : List ℕ) → begins_with_mark field ≡ false
    → strip_bom (row_text writer (field ∷ rest) ++ more) ≡ row_text writer (field ∷ rest) ++ more
kept-row field rest more plain =
    let end = row_end (is_blank writer (field ∷ rest)) in
    let split : row_text writer (field ∷ rest) ++ more ≡ field_text writer field ++ (fields_text writer rest ++ (end ++ more)) =
    append_assoc (field_text writer field ++ fields_text writer rest) end more ∙ append_assoc (field_text writer field) (fields_text writer rest) (end ++ more) in
    rw split (kept-text field _ plain (row-end-plain rest (is_blank writer (field ∷ rest)) more))

-- a printed text keeps its start, where the first field doesn't begin with the mark
printed-kept : (rows : List Row) → AllFilled rows → begins_with_mark (first_field rows) ≡ false → strip_bom (text_of rows) ≡ text_of rows
unfolding strip_bom
printed-kept [] all plain = refl
printed-kept ([] ∷ rows) all plain = absurd (omega (arith, all 0 [] (omega arith)))
printed-kept ((field ∷ rest) ∷ rows) all plain = kept-row field rest (text_of rows) plain

pub read-printed : ReadsBack
read-printed rows all plain =
    rw (printed-kept rows all plain) (all-records (text_of rows) rows (st.StartRecord, [], reached-printed rows all, end-of-text))

-- The kind of a row, by the word that it begins with.
use Rattle.std.proofs.Common.{◌≡◌, ℕ, true, false, ◌&&◌, ◌==◌, nat_le, List, Some, None, sym, ap, ◌∙◌, inl, inr}
use Rattle.std.specs.Prelude.{bytes_eq}
use Rattle.std.specs.Fmt.{decimal}
use Rattle.std.proofs.lemmas.Bool.{cases_eq, eq-eqb, ne_eqb, false_from_ne_true}
use Rattle.std.proofs.lemmas.Slice.Eq.{bytes_eq-Decides}
use Rattle.rows.specs.Rows.{Row}
use Rattle.plan_form.specs.declared.kinds.Kind.{Kind}
use Rattle.plan_form.specs.Parts.{IsSmall}
use Rattle.plan_form.specs.Values.{Spells}
use Rattle.plan_form.proofs.Texts.{number_injective}
use Rattle.plan_form.specs.Kinds.{field, since, kind_named, is_record, row_kind}

-- a row with the fields of the kind that it names is of that kind, where the format has it
pub kind_is : (format : ℕ) (row : Row) (k : Kind) → kind_named (field row 0) ≡ Some k → (nat_le (since k) format && is_record row k) ≡ true → row_kind format row ≡ Some k
unfolding row_kind
kind_is format row k named fine = rw (named, fine)

-- a row with other fields, or of a kind that the format has not, is of none
pub no_record : (format : ℕ) (row : Row) (k : Kind) → kind_named (field row 0) ≡ Some k → (nat_le (since k) format && is_record row k) ≡ false → row_kind format row ≡ None
unfolding row_kind
no_record format row k named other = rw (named, other)

-- a text that spells a number is the number's text where the numbers are equal
pub same_number : (text : List ℕ) (n m : ℕ) → IsSmall m → Spells IsSmall decimal text (Some n) → bytes_eq text (decimal m) ≡ (n == m)
same_number text n m small is = elim (cases_eq n m) [
  | inl e ↦ rw (eq-eqb n m e) ((bytes_eq-Decides text (decimal m)).1 (is.1 ∙ ap decimal e))
  | inr ne ↦ rw (ne_eqb n m ne) (false_from_ne_true _ (λ b. ne (number_injective n m is.0 small (sym is.1 ∙ (bytes_eq-Decides text (decimal m)).0 b))))
]

-- a text that spells no number is the text of none
pub no_number : (text : List ℕ) (m : ℕ) → IsSmall m → Spells IsSmall decimal text None → bytes_eq text (decimal m) ≡ false
no_number text m small none = false_from_ne_true _ (λ b. none m small ((bytes_eq-Decides text (decimal m)).0 b))

-- a row that names no kind is of none
pub no_name : (format : ℕ) (row : Row) → kind_named (field row 0) ≡ None → row_kind format row ≡ None
unfolding row_kind
no_name format row none = rw none

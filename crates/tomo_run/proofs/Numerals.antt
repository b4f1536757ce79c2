-- Words that spell numbers.
use Rattle.std.proofs.Common.{◌≡◌, refl, ℕ, ◌^◌, List, Option, Some, None, true, nat_lt, inl, inr, arith, decimal}
use Rattle.std.specs.Str.{bytes_eq}
use Rattle.std.proofs.lemmas.Bool.{cases_Bool, and_parts, and_from, ltb-true, lt-ltb}
use Rattle.std.proofs.lemmas.Slice.Eq.{bytes_eq-Decides}
use Rattle.std.proofs.lemmas.Fmt.{decimal_is_IsNumeral}
use Rattle.plan_form.specs.Parts.{IsSmall}
use Rattle.plan_form.specs.Values.{Spells}
use Rattle.tomo_run.specs.Numbers.{value_of, is_number, number_of}

-- what is read as the spelling of a small number is the number of the word
pub spelled_number : (word : List ℕ) (o : Option ℕ) → Spells IsSmall decimal word o → o ≡ number_of word
spelled_number word (Some x) (small, same) =
    let value : value_of word ≡ x = rw same (decimal_is_IsNumeral x (omega (arith, small))).1 in
    let is : is_number word ≡ true = and_from (bytes_eq word (decimal (value_of word))) (nat_lt (value_of word) (2 ^ 32)) (rw value ((bytes_eq-Decides word (decimal x)).1 same)) (rw value (lt-ltb x (2 ^ 32) small)) in
    rw (is, value) refl
spelled_number word None none = elim (cases_Bool (is_number word)) [
  | inl is ↦
      let parts = and_parts _ _ is in
      absurd (none (value_of word) (ltb-true (value_of word) (2 ^ 32) parts.1) ((bytes_eq-Decides word (decimal (value_of word))).0 parts.0))
  | inr other ↦ rw other refl
]

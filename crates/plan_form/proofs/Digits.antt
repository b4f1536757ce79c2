-- Decimal digits and their values.
use Rattle.std.proofs.Common.{◌≡◌, ℕ, zero, suc, ◌+◌, ◌-◌, ◌*◌, ◌^◌, ◌≤◌, ◌<◌, List, [], ◌∷◌, ◌++◌, length, get_or, take, drop, Option, Some, None, IfSome, IfNone, refl, sym, ap, subst, ◌∙◌, inl, inr, arith}
use Rattle.std.specs.Fmt.{decimal}
use Rattle.std.specs.Char.{digit_value}
use Rattle.std.specs.Int.{IsInRange}
use Rattle.std.specs.Str.Parse.{AllDigits, digits_value, digits_value_after}
use Rattle.std.proofs.lemmas.Bool.{cases_lt}
use Rattle.std.proofs.lemmas.List.{take-append-drop}
use Rattle.std.proofs.lemmas.Fmt.{digits_decimal, digits_value-decimal, decimal_nonempty, first_decimal, decimal-digits_value}
use Rattle.std.proofs.lemmas.Str.{digit_value_digit}
use Rattle.std.proofs.lemmas.Int.Digits.{digits_value_more}
use Rattle.plan_form.specs.Parts.{IsSmall}
use Rattle.plan_form.specs.Values.{Spells}
use Rattle.std.proofs.lemmas.Str.Parse.{IsNumeralModel, digit_from_value}

-- the standard library's words are a model of themselves
pub own_words : IsNumeralModel (AllDigits 10) (digits_value 10)
own_words = record { to = λ ds d. d; from = λ ds d. d; same = λ ds d. refl }

-- each of them is a byte from `0` to `9`
pub digit_at : (ds : List ℕ) → AllDigits 10 ds → (i d : ℕ) → i < length ds → IsInRange 48 57 (get_or ds i d)
digit_at [] all i d l = absurd (omega arith)
digit_at (c ∷ cs) all zero d l = digit_from_value c all.0
digit_at (c ∷ cs) all (suc i) d l = digit_at cs all.1 i d (omega (arith, l))

-- further digits make no number less
grows : (n : ℕ) (ds : List ℕ) → n ≤ digits_value_after 10 n ds
grows n [] = omega arith
grows n (c ∷ cs) = omega (arith, grows (n * 10 + digit_value c) cs)

-- digits behind digits go on from their value
after_front : (n : ℕ) (front back : List ℕ) → digits_value_after 10 n (front ++ back) ≡ digits_value_after 10 (digits_value_after 10 n front) back
after_front n [] back = refl
after_front n (c ∷ front) back = after_front (n * 10 + digit_value c) front back

-- so the first digits have at most the value of all
pub front_least : (ds : List ℕ) (k : ℕ) → digits_value 10 (take k ds) ≤ digits_value 10 ds
front_least ds k =
    subst (λ xs. digits_value 10 (take k ds) ≤ digits_value 10 xs) (take-append-drop k ds)
    (subst (λ m. digits_value 10 (take k ds) ≤ m) (sym (after_front 0 (take k ds) (drop k ds))) (grows (digits_value 10 (take k ds)) (drop k ds)))

-- the value of the digits up to a byte from `0` to `9`
pub one_more : (ds : List ℕ) (i value : ℕ) → i < length ds → digits_value 10 (take i ds) ≡ value → 48 ≤ get_or ds i 0 → get_or ds i 0 ≤ 57 → digits_value 10 (take (i + 1) ds) ≡ value * 10 + (get_or ds i 0 - 48)
one_more ds i value l before low high = omega (arith, digits_value_more 10 ds i l, before, digit_value_digit (get_or ds i 0) (low, high))

-- how 0 is spelled
nought_is : decimal 0 ≡ 48 ∷ []
nought_is = decimal-digits_value own_words (48 ∷ []) (omega arith, tt) (omega arith) (λ e. refl) (omega arith)

-- what a number is spelled by
pub spelled : (n : ℕ) → IsSmall n → (text : List ℕ) → text ≡ decimal n → AllDigits 10 text × (digits_value 10 text ≡ n) × (0 < length text) × (get_or text 0 0 ≡ 48 → length text ≡ 1)
spelled n small text e =
    let wide : n < 2 ^ 64 = omega (arith, small) in rw e (
      digits_decimal own_words n wide,
      digits_value-decimal own_words n wide,
      decimal_nonempty n wide,
      λ lead. elim (cases_lt 0 n) [
        | inl some ↦ absurd (omega (arith, first_decimal n some wide, lead))
        | inr none ↦ let nought : n ≡ 0 = omega (arith, none) in rw (nought, nought_is) refl
      ],
    )

-- what reading the digits of a text without a leading zero tells of it
pub tells : (text : List ℕ) → 0 < length text → (get_or text 0 0 ≡ 48 → length text ≡ 1) → (r : Option ℕ) → IfSome r (λ n. AllDigits 10 text × (digits_value 10 text ≡ n) × IsSmall n)
    → IfNone r (AllDigits 10 text → 2 ^ 32 ≤ digits_value 10 text) → Spells IsSmall decimal text r
tells text some lead (Some n) is none =
    let whole : digits_value 10 text < 2 ^ 64 = omega (arith, is.1, is.2) in
    (is.2, sym (ap decimal (sym is.1) ∙ decimal-digits_value own_words text is.0 some lead whole))
tells text some lead None is none = λ n small e. let at = spelled n small text e in omega (arith, none at.0, at.1, small)

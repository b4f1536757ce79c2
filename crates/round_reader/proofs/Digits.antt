-- When a field is a sum, by what std reads of its text.
use Rattle.std.proofs.Common.{◌≡◌, ℕ, ◌^◌, ◌<◌, ◌≤◌, List, length, get_or, subst, arith, Result, Ok, Err, IsUtf8, Bor}
use Rattle.std.specs.Result.{OkIff, MatchResult}
use Rattle.std.specs.Str.Parse.{AllDigits, digits_value, ParsesUnsigned}
use Rattle.std.proofs.lemmas.Fmt.{IsAscii-from_digits}
use Rattle.std.proofs.lemmas.Str.{IsUtf8-from_ascii}
use Rattle.std.proofs.lemmas.Str.Parse.{IsNumeralModel, digit_at, numerals_by_value, tells_digits, parse_plain}
use Rattle.tomo_base.specs.Limits.{sum_limit}
use Rattle.rows.specs.Blanks.{trimmed}
use Rattle.round_reader.specs.Sums.{IsSum}

-- std's own words for numerals
plain : IsNumeralModel (AllDigits 10) (digits_value 10)
plain = numerals_by_value (AllDigits 10) tells_digits

-- what begins with a plus sign is no sum
pub no_signed_sum : (field : List ℕ) (v : ℕ) → get_or (trimmed field) 0 0 ≡ 43 → IsSum field v → ⊥
no_signed_sum field v plus is = let first = digit_at (trimmed field) 0 is.digits is.some in omega (arith, first, plus)

-- digits are a text, so what is no text is no sum
pub no_text_no_sum : (field : List ℕ) → ¬ (IsUtf8 (trimmed field)) → (v : ℕ) → IsSum field v → ⊥
no_text_no_sum field none v is = none (IsUtf8-from_ascii (trimmed field) (IsAscii-from_digits (trimmed field) is.digits))

-- where a text cannot be made of the bytes
pub no_sum_where_err : {E : Type 0} (field bytes : List ℕ) (P : E → Type 0) (r : Result (Bor (List ℕ)) E) (x : E) → bytes ≡ trimmed field → r ≡ Err x → MatchResult r (λ s. (s.now ≡ bytes) × IsUtf8 bytes) (λ e. ¬ (IsUtf8 bytes) × P e)
    → (v : ℕ) → IsSum field v → ⊥
no_sum_where_err {E} field bytes P r x is err cases v sum =
    let told = subst (λ q. MatchResult q (λ s. (s.now ≡ bytes) × IsUtf8 bytes) (λ e. ¬ (IsUtf8 bytes) × P e)) err cases in
    no_text_no_sum field (subst (λ bs. ¬ (IsUtf8 bs)) is told.0) v sum

-- what std reads of a text without a sign in front: its digits' value, or that they are none or too many
read_as : {E : Type 0} (bs : List ℕ) (r : Result ℕ E) → ParsesUnsigned 64 10 bs r → (get_or bs 0 0 ≡ 43 → ⊥) → OkIff r (AllDigits 10 bs × (0 < length bs) × (digits_value 10 bs < 2 ^ 64)) (digits_value 10 bs)
read_as bs r h ne = parse_plain plain 64 bs r h ne

-- what is read is a sum, if it is small
pub sum_from : {E : Type 0} (field : List ℕ) (r : Result ℕ E) (v : ℕ) → ParsesUnsigned 64 10 (trimmed field) r → r ≡ Ok v → (get_or (trimmed field) 0 0 ≡ 43 → ⊥) → length (trimmed field) ≤ 20 → v ≤ sum_limit → IsSum field v
sum_from {E} field r v h e ne few small =
    let all : AllDigits 10 (trimmed field) × (0 < length (trimmed field)) × (digits_value 10 (trimmed field) < 2 ^ 64) × (v ≡ digits_value 10 (trimmed field)) = go (subst (λ q. OkIff q (AllDigits 10 (trimmed field) × (0 < length (trimmed field)) × (digits_value 10 (trimmed field) < 2 ^ 64)) (digits_value 10 (trimmed field))) e (read_as (trimmed field) r h ne)) in
    record { some = all.1; few = few; digits = all.0; value = all.3; bounded = small }
  where
    go : {A B C D : Type 0} → (A × B × C) × D → A × B × C × D
    go p = (p.0.0, p.0.1, p.0.2, p.1)

-- a large number is no sum
pub no_large_sum : {E : Type 0} (field : List ℕ) (r : Result ℕ E) (v : ℕ) → ParsesUnsigned 64 10 (trimmed field) r → r ≡ Ok v → (get_or (trimmed field) 0 0 ≡ 43 → ⊥) → sum_limit < v → (s : ℕ) → IsSum field s → ⊥
no_large_sum {E} field r v h e ne large s is =
    let all = subst (λ q. OkIff q (AllDigits 10 (trimmed field) × (0 < length (trimmed field)) × (digits_value 10 (trimmed field) < 2 ^ 64)) (digits_value 10 (trimmed field))) e (read_as (trimmed field) r h ne) in
    absurd (omega (arith, all.1, is.value, is.bounded, large))

-- where nothing is read there is no sum
pub no_unread_sum : {E : Type 0} (field : List ℕ) (r : Result ℕ E) (x : E) → ParsesUnsigned 64 10 (trimmed field) r → r ≡ Err x → (get_or (trimmed field) 0 0 ≡ 43 → ⊥) → (s : ℕ) → IsSum field s → ⊥
no_unread_sum {E} field r x h e ne s is =
    let none = subst (λ q. OkIff q (AllDigits 10 (trimmed field) × (0 < length (trimmed field)) × (digits_value 10 (trimmed field) < 2 ^ 64)) (digits_value 10 (trimmed field))) e (read_as (trimmed field) r h ne) in
    none (is.digits, is.some, (let value = is.value in let small = is.bounded in omega (arith, value, small)))

-- Rows as the spellings of what they say, and why a row is no such spelling.
use Rattle.std.proofs.Common.{◌≡◌, ℕ, Bool, true, false, nat_le, ◌&&◌, ◌==◌, List, [], ◌∷◌, length, Option, Some, None, inl, inr, Result, Ok, Err, IfErr, refl, ap, subst, ◌∙◌, arith}
use Rattle.std.specs.Prelude.{bytes_eq, find, cond}
use Rattle.std.specs.Result.{IsErrAnd}
use Rattle.std.proofs.lemmas.Bool.{and_parts, both_ways, cases_Bool, eqb-true}
use Rattle.std.proofs.lemmas.Option.{none-some, same_Some}
use Rattle.std.proofs.lemmas.Slice.Eq.{bytes_eq-Decides}
use Rattle.rows.specs.Rows.{Row}
use Rattle.plan_form.specs.declared.faults.PlanFault.{PlanFault}
use Rattle.plan_form.specs.declared.faults.PlanFault.TheVariants as faults
use Rattle.plan_form.specs.declared.kinds.Kind.{Kind}
use Rattle.plan_form.specs.declared.kinds.Kind.TheVariants as kinds
use Rattle.plan_form.specs.Kinds.{field, place, word, width, since, in_turn, kind_named, filtered, is_record, row_kind}
use Rattle.plan_form.specs.PlanRows.{Item, IsItem, row_of}
use Rattle.plan_form.specs.Reading.{IsRow, is_kind}
use Rattle.plan_form.specs.Taking.{RefusesItem}
use Rattle.plan_form.specs.Values.{Spells}
use Rattle.plan_form.proofs.Telling.{same_place}
use Rattle.plan_form.proofs.Walking.{picked}

-- what is found passes the test
found_passes : {A : Type 0} (test : A → Bool) (xs : List A) (x : A) → find test xs ≡ Some x → test x ≡ true
found_passes test [] x e = absurd (none-some x e)
found_passes test (y ∷ ys) x e = elim (cases_Bool (test y)) [
  | inl b ↦ subst (λ z. test z ≡ true) (same_Some y x (rw b at e)) b
  | inr b ↦ found_passes test ys x (rw b at e)
]

-- a row of a kind has the word and the fields of the kind, and the format has the kind
pub kind_tells : (format : ℕ) (row : Row) (k : Kind) → row_kind format row ≡ Some k → (field row 0 ≡ word k) × (is_record row k ≡ true) × (nat_le (since k) format ≡ true)
unfolding row_kind
kind_tells format row k e = tells (kind_named (field row 0)) refl e
  where
    same : (b : Bool) (j : Kind) → cond b (Some j) None ≡ Some k → (b ≡ true) × (j ≡ k)
    same true j e = (refl, same_Some j k e)
    same false j e = absurd (none-some k e)

    tells : (o : Option Kind) → kind_named (field row 0) ≡ o → filtered (λ j. nat_le (since j) format && is_record row j) o ≡ Some k → (field row 0 ≡ word k) × (is_record row k ≡ true) × (nat_le (since k) format ≡ true)
    tells None named e = absurd (none-some k e)
    tells (Some j) named e =
        let is = same (nat_le (since j) format && is_record row j) j e in
        let both = and_parts _ _ (subst (λ i. (nat_le (since i) format && is_record row i) ≡ true) is.1 is.0) in (
          (bytes_eq-Decides (field row 0) (word k)).0 (found_passes (λ i. bytes_eq (field row 0) (word i)) in_turn k (named ∙ ap (λ i. Some i) is.1)),
          both.1,
          both.0,
        )

-- no row is of a kind that the format has not
pub none_picked : (format : ℕ) (k : Kind) (rows : List Row) → nat_le (since k) format ≡ false → picked format k rows ≡ []
unfolding picked
none_picked format k [] late = refl
none_picked format k (row ∷ rows) late = rw (other (row_kind format row) refl) (none_picked format k rows late)
  where
    other : (o : Option Kind) → row_kind format row ≡ o → is_kind o k ≡ false
    other None e = refl
    other (Some j) e = elim (cases_Bool (place j == place k)) [
      | inl b ↦ absurd (both_ways _ late (subst (λ i. nat_le (since i) format ≡ true) (same_place j k (eqb-true _ _ b)) (kind_tells format row j e).2))
      | inr b ↦ b
    ]

-- a record has as many fields as its kind
pub is_wide : (k : Kind) (row : Row) → is_record row k ≡ true → length row ≡ width k
is_wide kinds.Plan row h = eqb-true _ _ (and_parts _ _ h).0
is_wide kinds.Node row h = eqb-true _ _ (and_parts _ _ h).0
is_wide _ row h = eqb-true _ _ h

-- rows of few fields, field by field
pub row_of_one : (row : Row) → length row ≡ 1 → row ≡ field row 0 ∷ []
row_of_one (a ∷ []) e = refl
row_of_one _ e = absurd (omega (arith, e))

-- two fields
pub row_of_two : (row : Row) → length row ≡ 2 → row ≡ field row 0 ∷ field row 1 ∷ []
row_of_two (a ∷ b ∷ []) e = refl
row_of_two _ e = absurd (omega (arith, e))

-- three fields
pub row_of_three : (row : Row) → length row ≡ 3 → row ≡ field row 0 ∷ field row 1 ∷ field row 2 ∷ []
row_of_three (a ∷ b ∷ c ∷ []) e = refl
row_of_three _ e = absurd (omega (arith, e))

-- four fields
pub row_of_four : (row : Row) → length row ≡ 4 → row ≡ field row 0 ∷ field row 1 ∷ field row 2 ∷ field row 3 ∷ []
row_of_four (a ∷ b ∷ c ∷ d ∷ []) e = refl
row_of_four _ e = absurd (omega (arith, e))

-- a row with a field that spells no value is no row of its kind
pub unspelled : {B : Type 0} (k : Kind) (place : ℕ) (Fine : B → Type 0) (text : B → List ℕ) (part : Item k → B) → ((i : ℕ) (x : Item k) → IsItem k x → Fine (part x) × (field (row_of k i x) place ≡ text (part x)))
    → (row : Row) → Spells Fine text (field row place) None → (i : ℕ) → IsRow k i row → ⊥
unspelled k place Fine text part says row none i is =
    let here = says i is.item is.fits in
    none (part is.item) here.0 (ap (λ r. field r place) is.row_is ∙ here.1)

-- what is answered at a row that is misspelled
pub misspelled : {T : Type 0} (k : Kind) (i n : ℕ) (row : Row) (answer : Result T PlanFault) (fault : PlanFault) → IsErrAnd answer (λ f. f ≡ fault) → fault ≡ faults.Number n → ((j : ℕ) → IsRow k j row → ⊥) → IfErr answer (RefusesItem k i n row)
misspelled k i n row (Ok x) fault is number none = tt
misspelled k i n row (Err f) fault is number none = rw (is, number) (refl, none)

-- what is answered at a row of which a number is refused
pub refused : {T : Type 0} (k : Kind) (i n : ℕ) (row : Row) (answer : Result T PlanFault) (fault : PlanFault) → IsErrAnd answer (λ f. f ≡ fault) → RefusesItem k i n row fault → IfErr answer (RefusesItem k i n row)
refused k i n row (Ok x) fault is refusal = tt
refused k i n row (Err f) fault is refusal = rw is refusal

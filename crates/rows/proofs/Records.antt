-- The records that a reader reaches one by one are the records of the text.
use Rattle.std.proofs.Common.{◌≡◌, sym, ap, refl, subst, ℕ, suc, zero, ◌+◌, ◌<◌, ◌≤◌, List, [], ◌∷◌, length, true, false, Some, None, arith, length-append, inl, inr, ◌==◌}
use Rattle.std.proofs.lemmas.Bool.{cases_Bool}
use Rattle.csv.specs.Machine.{next_record, step, in_field, start_field, start_record, ends_with, is_end, ends_at_end, fields_after, field_after, Read}
use Rattle.csv.specs.declared.parser.Terminator.TheVariants as term
use Rattle.csv.specs.Reading.{default_config, records_from, Reached, AreRecords, records}
use Rattle.rows.specs.Rows.{RowList}
use Rattle.csv.specs.declared.parser.Config.{Config}
use Rattle.csv.specs.declared.parser.State.{State}
use Rattle.csv.specs.declared.parser.State.TheVariants as st
use Rattle.csv.specs.declared.parser.Action.{Action}
use Rattle.csv.specs.declared.parser.Action.TheVariants as act
use Rattle.tomo_base.proofs.Lists.{some_inj}

-- the byte that ends a record adds a field
end-fields : (a : Action) (fields : List (List ℕ)) (field : List ℕ) → is_end a ≡ true → 0 < length (fields_after a fields field)
end-fields act.EndRecord fields field e = rw length-append (omega arith)
end-fields act.Skip fields field e = cc e
end-fields act.Copy fields field e = cc e
end-fields act.EndField fields field e = cc e

abbrev HasField : Read → Type 0
HasField q = 0 < length q.0

-- a record has a field
pub read-filled : (cfg : Config) (s : State) (fields : List (List ℕ)) (field xs : List ℕ) (q : Read) → next_record cfg s fields field xs ≡ Some q → 0 < length q.0
unfolding next_record
read-filled cfg s fields field [] q e = elim (cases_Bool (ends_at_end s)) [
  | inl holds ↦ let same = some_inj (rw holds at e) in
      subst HasField same (rw length-append (omega arith))
  | inr fails ↦ cc (rw fails at e)
]
read-filled cfg s fields field (c ∷ rest) q e = elim (cases_Bool (is_end (step cfg s c).1)) [
  | inl holds ↦ let same = some_inj (rw holds at e) in
      subst HasField same (end-fields (step cfg s c).1 fields field holds)
  | inr fails ↦ read-filled cfg (step cfg s c).0 (fields_after (step cfg s c).1 fields field) (field_after (step cfg s c).1 c field) rest q (rw fails at e)
]

-- a byte that ends a record leaves a state that the end of the text doesn't end, from each state
ended-in-field : (c : ℕ) → is_end (in_field default_config c).1 ≡ true → ends_at_end (in_field default_config c).0 ≡ false
ended-in-field c e = elim (cases_Bool (c == 44)) [
  | inl comma ↦ cc (rw comma at e)
  | inr other ↦ elim (cases_Bool (c == 13)) [
    | inl cr ↦ rw (other, cr) refl
    | inr plain ↦ elim (cases_Bool (c == 10)) [
      | inl lf ↦ rw (other, plain, lf) refl
      | inr none ↦ cc (rw (other, plain, none) at e)
    ]
  ]
]

ended-start-field : (c : ℕ) → is_end (start_field default_config c).1 ≡ true → ends_at_end (start_field default_config c).0 ≡ false
ended-start-field c e = elim (cases_Bool (c == 34)) [
  | inl quote ↦ cc (rw quote at e)
  | inr other ↦ rw other (ended-in-field c (rw other at e))
]

ended-start-record : (c : ℕ) → is_end (start_record default_config c).1 ≡ true → ends_at_end (start_record default_config c).0 ≡ false
ended-start-record c e = elim (cases_Bool (ends_with term.CRLF c)) [
  | inl end ↦ cc (rw end at e)
  | inr other ↦
      let same : start_record default_config c ≡ start_field default_config c = rw other refl in
      rw same (ended-start-field c (rw same at e))
]

ended : (s : State) (c : ℕ) → is_end (step default_config s c).1 ≡ true → ends_at_end (step default_config s c).0 ≡ false
ended st.StartRecord c e = ended-start-record c e
ended st.StartField c e = ended-start-field c e
ended st.InField c e = ended-in-field c e
ended st.InQuoted c e = elim (cases_Bool (c == 34)) [
  | inl quote ↦ cc (rw quote at e)
  | inr other ↦ cc (rw other at e)
]
ended st.InEscape c e = cc e
ended st.AfterQuote c e = elim (cases_Bool (c == 34)) [
  | inl quote ↦ cc (rw quote at e)
  | inr other ↦ rw other (ended-in-field c (rw other at e))
]
ended st.InComment c e = elim (cases_Bool (c == 10)) [
  | inl quote ↦ cc (rw quote at e)
  | inr other ↦ cc (rw other at e)
]
ended st.AfterCr c e = elim (cases_Bool (c == 10)) [
  | inl quote ↦ cc (rw quote at e)
  | inr other ↦
      let same : step default_config st.AfterCr c ≡ start_record default_config c = rw other refl in
      rw same (ended-start-record c (rw same at e))
]

-- a read stops between two records, and no earlier than it began
pub record Shortens (s : State) (xs : List ℕ) (q : Read) : Type 0 where
  pub between : ends_at_end q.1 ≡ false
  pub no_longer : length q.2 ≤ length xs
  pub shorter : ends_at_end s ≡ false → length q.2 < length xs

pub read-shortens : (s : State) (fields : List (List ℕ)) (field xs : List ℕ) (q : Read) → next_record default_config s fields field xs ≡ Some q → Shortens s xs q
unfolding next_record
read-shortens s fields field [] q e = elim (cases_Bool (ends_at_end s)) [
  | inl holds ↦ let same = some_inj (rw holds at e) in
      subst (λ q. Shortens s [] q) same (record { between = refl; no_longer = omega arith; shorter = λ fails. cc (holds, fails) })
  | inr fails ↦ cc (rw fails at e)
]
read-shortens s fields field (c ∷ rest) q e = elim (cases_Bool (is_end (step default_config s c).1)) [
  | inl holds ↦ let same = some_inj (rw holds at e) in
      subst (λ q. Shortens s (c ∷ rest) q) same (record { between = ended s c holds; no_longer = omega arith; shorter = λ fails. omega arith })
  | inr fails ↦
      let more = read-shortens (step default_config s c).0 (fields_after (step default_config s c).1 fields field) (field_after (step default_config s c).1 c field) rest q (rw fails at e) in
      let le = more.no_longer in
      record { between = more.between; no_longer = omega (arith, le); shorter = λ fails. omega (arith, le) }
]

-- the records that were reached, and no more, are those of the text
reached-all : (n : ℕ) (s s2 : State) (xs ys : List ℕ) (rows : List (List (List ℕ))) → length xs < n → ends_at_end s ≡ false
    → Reached default_config s xs rows s2 ys → next_record default_config s2 [] [] ys ≡ None → records_from default_config n s xs ≡ rows
unfolding Reached records_from
reached-all zero s s2 xs ys rows lt fails r e = absurd (omega arith)
reached-all (suc n) s s2 xs ys [] lt fails r e = rw (r.0, r.1, e) refl
reached-all (suc n) s s2 xs ys (row ∷ rows) lt fails r e =
    let short = read-shortens s [] [] xs r.0 r.1 in
    let less = short.shorter fails in
    rw (r.1, r.2) (ap (λ (rs : List (List (List ℕ))). r.0.0 ∷ rs) (reached-all n r.0.1 s2 r.0.2 ys rows (omega (arith, less)) short.between r.3 e))

pub all-records : (xs : List ℕ) (rows : List (List (List ℕ))) → AreRecords default_config st.StartRecord xs rows → records default_config xs ≡ rows
all-records xs rows (s2, ys, r, e) = reached-all (length xs + 1) st.StartRecord s2 xs ys rows (omega arith) refl r e

-- a list of rows with an empty open row
pub list-of : (rows : RowList) (closed : List (List (List ℕ))) → closed ≡ rows.closed → rows.current ≡ [] → rows ≡ record { closed = closed; current = [] }
list-of rows closed e none = λ i. record { closed = sym e i; current = none i }

-- How long the records of a text are, and how many there are.
use Rattle.std.proofs.Common.{◌≡◌, refl, sym, ap, subst, ℕ, ◌+◌, ◌<◌, ◌≤◌, List, [], ◌∷◌, ◌++◌, length, true, false, Option, Some, None, arith, length-append, inl, inr}
use Rattle.std.proofs.lemmas.Bool.{cases_Bool}
use Rattle.std.proofs.lemmas.List.Sums.{sum_by_push}
use Rattle.csv.specs.Machine.{next_record, step, is_end, ends_at_end, fields_after, field_after, Read}
use Rattle.csv.specs.Reading.{default_config, strip_bom, Reached, NextIs, ReadsNext, is_bom}
use Rattle.csv.specs.declared.parser.Config.{Config}
use Rattle.csv.specs.declared.parser.State.{State}
use Rattle.csv.specs.declared.parser.Action.{Action}
use Rattle.csv.specs.declared.parser.Action.TheVariants as act
use Rattle.rows.specs.Rows.{Row, row_bytes}
use Rattle.rows.proofs.Records.{read-filled, read-shortens}
use Rattle.tomo_base.proofs.Lists.{some_inj}

-- the fields so far and the field at hand, each field counted as one more than its bytes
abbrev size_of : Row → List ℕ → ℕ
size_of fields field = length fields + row_bytes fields + length field

-- a field is ended at the cost of one
size-ended : (fields : Row) (field : List ℕ) → size_of (fields ++ field ∷ []) [] ≡ size_of fields field + 1
size-ended fields field = omega (arith, length-append fields (field ∷ []), sum_by_push (λ (f : List ℕ). length f) fields field)

-- one byte adds at most one
size-grown : (a : Action) (c : ℕ) (fields : Row) (field : List ℕ) → size_of (fields_after a fields field) (field_after a c field) ≤ size_of fields field + 1
size-grown act.EndRecord c fields field = omega (arith, size-ended fields field)
size-grown act.EndField c fields field = omega (arith, size-ended fields field)
size-grown act.Skip c fields field = omega arith
size-grown act.Copy c fields field = omega (arith, length-append field (c ∷ []))

-- a record is no larger than the bytes that were read for it, and the end of the text
pub read-size : (cfg : Config) (s : State) (fields : Row) (field xs : List ℕ) (q : Read) → next_record cfg s fields field xs ≡ Some q
    → size_of q.0 [] + length q.2 ≤ size_of fields field + length xs + 1
unfolding next_record
read-size cfg s fields field [] q e = elim (cases_Bool (ends_at_end s)) [
  | inl holds ↦ let same = some_inj (rw holds at e) in
      subst (λ (q : Read). size_of q.0 [] + length q.2 ≤ size_of fields field + length {A = ℕ} [] + 1) same (omega (arith, size-ended fields field))
  | inr fails ↦ cc (rw fails at e)
]
read-size cfg s fields field (c ∷ rest) q e =
    let grown = size-grown (step cfg s c).1 c fields field in
    elim (cases_Bool (is_end (step cfg s c).1)) [
      | inl holds ↦ let same = some_inj (rw holds at e) in
          subst (λ (q : Read). size_of q.0 [] + length q.2 ≤ size_of fields field + length (c ∷ rest) + 1) same (omega (arith, grown))
      | inr fails ↦
          let more = read-size cfg (step cfg s c).0 (fields_after (step cfg s c).1 fields field) (field_after (step cfg s c).1 c field) rest q (rw fails at e) in
          omega (arith, grown, more)
    ]

-- the fields of a record that was read: there is one, and no more than bytes left and the end of the text
pub record IsRead (fields : Row) (left : ℕ) : Type 0 where
  pub filled : 0 < length fields
  pub few : length fields ≤ left + 1

-- the same of a read that was made
next-read : (o : Option Read) (f : Row) (s2 : State) (z : List ℕ) (left : ℕ) → ((q : Read) → o ≡ Some q → IsRead q.0 left) → NextIs o true f s2 z → IsRead f left
next-read None f s2 z left h n = cc n
next-read (Some p) f s2 z left h n = subst (λ (g : Row). IsRead g left) (sym n.1) (h p refl)

read-is : (s : State) (y : List ℕ) (q : Read) → next_record default_config s [] [] y ≡ Some q → IsRead q.0 (length y)
read-is s y q e =
    let size = read-size default_config s [] [] y q e in
    record { filled = read-filled default_config s [] [] y q e; few = omega (arith, size) }

pub record-is : (cfg : Config) (s : State) (y : List ℕ) (k : Option (List ℕ)) (f : Row) (s2 : State) → cfg ≡ default_config → ReadsNext cfg s (Some y) k true f s2 → IsRead f (length y)
record-is cfg s y None f s2 same r = absurd r
record-is cfg s y (Some z) f s2 same r = next-read (next_record cfg s [] [] y) f s2 z (length y) (λ q e. read-is s y q (rw same at e)) r

-- each record took a byte
pub reached-count : (s s2 : State) (xs ys : List ℕ) (rows : List Row) → ends_at_end s ≡ false → Reached default_config s xs rows s2 ys → length rows + length ys ≤ length xs
unfolding Reached
reached-count s s2 xs ys [] between r = omega (arith, ap (λ (zs : List ℕ). length zs) r.1)
reached-count s s2 xs ys (row ∷ rows) between r =
    let short = read-shortens s [] [] xs r.0 r.1 in
    let more = reached-count r.0.1 s2 r.0.2 ys rows short.between r.3 in
    let less = short.shorter between in
    omega (arith, more, less)

-- a text is no longer without its mark
pub strip-short : (xs : List ℕ) → length (strip_bom xs) ≤ length xs
unfolding strip_bom
strip-short [] = omega arith
strip-short (a ∷ []) = omega arith
strip-short (a ∷ b ∷ []) = omega arith
strip-short (a ∷ b ∷ c ∷ rest) = elim (cases_Bool (is_bom a b c)) [
  | inl mark ↦ rw mark (omega arith)
  | inr none ↦ rw none (omega arith)
]

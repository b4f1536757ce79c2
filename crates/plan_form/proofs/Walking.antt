-- Rows that follow each other without a fault, and why a fault excludes them.
use Rattle.std.proofs.Common.{◌≡◌, ℕ, ◌+◌, ◌==◌, false, cond, List, [], ◌∷◌, ◌++◌, length, Option, Some, None, refl, sym, ap, subst, ◌∙◌, inl, inr, arith, append_assoc, add-zero}
use Rattle.std.proofs.lemmas.Bool.{both_ways, cases_Bool}
use Rattle.std.proofs.lemmas.List.{append-nil}
use Rattle.std.proofs.lemmas.Option.{none-some, same_Some}
use Rattle.tomo_base.specs.Sets.{one_if}
use Rattle.rows.specs.Rows.{Row}
use Rattle.plan_form.specs.declared.kinds.Kind.{Kind}
use Rattle.plan_form.specs.Kinds.{row_kind, place}
use Rattle.plan_form.specs.Reading.{IsRow, is_kind, counted, last_kind, is_in_order, IsNext, AreNext, FaultAt, Why, Late, Unknown, Misplaced, Misspelled, Misnumbered}

-- the rows of one kind, out of all
unfoldable pub picked : ℕ → Kind → List Row → List Row
picked format k [] = []
picked format k (row ∷ rows) = cond (is_kind (row_kind format row) k) (row ∷ []) [] ++ picked format k rows

-- those of two lists
pub picked-append : (format : ℕ) (k : Kind) (xs ys : List Row) → picked format k (xs ++ ys) ≡ picked format k xs ++ picked format k ys
unfolding picked
picked-append format k [] ys = refl
picked-append format k (row ∷ xs) ys =
    ap (λ t. cond (is_kind (row_kind format row) k) (row ∷ []) [] ++ t) (picked-append format k xs ys) ∙ sym (append_assoc (cond (is_kind (row_kind format row) k) (row ∷ []) []) (picked format k xs) (picked format k ys))

-- they are as many as are counted
pub length-picked : (format : ℕ) (k : Kind) (rows : List Row) → length (picked format k rows) ≡ counted format k rows
unfolding picked counted
length-picked format k [] = refl
length-picked format k (row ∷ rows) = elim (cases_Bool (is_kind (row_kind format row) k)) [
  | inl e ↦ rw e (omega (arith, length-picked format k rows))
  | inr e ↦ rw e (omega (arith, length-picked format k rows))
]

-- those of two lists are counted together
pub counted-append : (format : ℕ) (k : Kind) (xs ys : List Row) → counted format k (xs ++ ys) ≡ counted format k xs + counted format k ys
unfolding counted
counted-append format k [] ys = omega arith
counted-append format k (row ∷ xs) ys = omega (arith, counted-append format k xs ys)

-- a row more of the kind j
pub counted-push : (format : ℕ) (k j : Kind) (rows : List Row) (row : Row) → row_kind format row ≡ Some j → counted format k (rows ++ row ∷ []) ≡ counted format k rows + one_if (place j == place k)
unfolding counted
counted-push format k j rows row e = counted-append format k rows (row ∷ []) ∙ rw e (ap (λ n. counted format k rows + n) (add-zero _))

-- a row more, where it is of the kind
pub picked-push : (format : ℕ) (k j : Kind) (rows : List Row) (row : Row) → row_kind format row ≡ Some j → picked format k (rows ++ row ∷ []) ≡ picked format k rows ++ cond (place j == place k) (row ∷ []) []
unfolding picked
picked-push format k j rows row e = picked-append format k rows (row ∷ []) ∙ rw e (ap (λ t. picked format k rows ++ t) (append-nil _))

-- the last row decides
pub last_kind-push : (format : ℕ) (rows : List Row) (row : Row) → last_kind format (rows ++ row ∷ []) ≡ row_kind format row
unfolding last_kind
last_kind-push format [] row = refl
last_kind-push format (x ∷ []) row = refl
last_kind-push format (x ∷ y ∷ rows) row = last_kind-push format (y ∷ rows) row

-- rows after rows
pub AreNext-append : (format : ℕ) (before xs ys : List Row) → AreNext format before xs → AreNext format (before ++ xs) ys → AreNext format before (xs ++ ys)
AreNext-append format before [] ys h₁ h₂ = subst (λ b. AreNext format b ys) (append-nil before) h₂
AreNext-append format before (row ∷ xs) ys h₁ h₂ =
    (h₁.0, AreNext-append format (before ++ row ∷ []) xs ys h₁.1 (subst (λ b. AreNext format b ys) (sym (append_assoc before (row ∷ []) xs)) h₂))

-- one row more
pub AreNext-push : (format : ℕ) (rows : List Row) (row : Row) → AreNext format [] rows → IsNext format rows row → AreNext format [] (rows ++ row ∷ [])
AreNext-push format rows row h next = AreNext-append format [] rows (row ∷ []) h (next, tt)

-- each row of rows without a fault follows those before it
pub next_at : (format : ℕ) (before xs : List Row) (row : Row) (ys : List Row) → AreNext format before (xs ++ row ∷ ys) → IsNext format (before ++ xs) row
next_at format before [] row ys h = subst (λ b. IsNext format b row) (sym (append-nil before)) h.0
next_at format before (x ∷ xs) row ys h = subst (λ b. IsNext format b row) (append_assoc before (x ∷ []) xs) (next_at format (before ++ x ∷ []) xs row ys h.1)

-- a row has one kind
pub same_kind : (o : Option Kind) (j k : Kind) → o ≡ Some j → o ≡ Some k → j ≡ k
same_kind o j k e h = same_Some j k (sym e ∙ h)

-- a row without a kind is of none
pub no_kind : (o : Option Kind) (k : Kind) → o ≡ None → o ≡ Some k → ⊥
no_kind o k e h = none-some k (sym e ∙ h)

-- a row that follows has no fault
pub not_both : (format : ℕ) (before : List Row) (row : Row) (why : Why) → IsNext format before row → FaultAt format before row why → ⊥
not_both format before row Late next fault = absurd (omega (arith, next.is_of.open_yet, fault))
not_both format before row Unknown next fault = no_kind (row_kind format row) next.kind fault.1 next.is_of.is_kind
not_both format before row Misplaced next fault =
    let e : fault.0 ≡ next.kind = same_kind (row_kind format row) fault.0 next.kind fault.1.is_kind next.is_of.is_kind in
    both_ways (is_in_order format before next.kind) (subst (λ k. is_in_order format before k ≡ false) e fault.2) next.in_order
not_both format before row Misspelled next fault =
    let e : fault.0 ≡ next.kind = same_kind (row_kind format row) fault.0 next.kind fault.1.is_kind next.is_of.is_kind in
    fault.3 (counted format next.kind before) (subst (λ k. IsRow k (counted format next.kind before) row) (sym e) next.is_row)
not_both format before row Misnumbered next fault =
    let e : fault.0 ≡ next.kind = same_kind (row_kind format row) fault.0 next.kind fault.1.is_kind next.is_of.is_kind in
    fault.4 (subst (λ k. IsRow k (counted format k before) row) (sym e) next.is_row)

-- Rows have at most one first fault.
use Rattle.std.proofs.Common.{inl, inr, ◌⊎◌, ◌≡◌, ◌≢◌, ℕ, ◌+◌, ◌<◌, ◌≤◌, false, List, [], ◌∷◌, ◌++◌, length, refl, sym, ap, ap₂, subst, ◌∙◌, arith}
use Rattle.std.proofs.lemmas.Bool.{both_ways, cases_order}
use Rattle.rows.specs.Rows.{Row}
use Rattle.plan_form.specs.declared.faults.PlanFault.{PlanFault}
use Rattle.plan_form.specs.declared.faults.PlanFault.TheVariants as faults
use Rattle.plan_form.specs.Kinds.{row_kind}
use Rattle.plan_form.specs.Reading.{AreNext, IsRow, is_in_order, FaultAt, Why, Late, Unknown, Misplaced, Misspelled, Misnumbered, IsFirstAt, IsUnended, IsFirstFaultIn}
use Rattle.plan_form.proofs.Joined.{heads, tails}
use Rattle.plan_form.proofs.Walking.{next_at, not_both, same_kind, no_kind}
use Rattle.plan_form.proofs.Printed.{none_at}

-- the order in which the faults of a row are tried
turn : Why → ℕ
turn Late = 0
turn Unknown = 1
turn Misplaced = 2
turn Misspelled = 3
turn Misnumbered = 4

-- the last of them
last_turn : (w : Why) → turn w ≤ 4
unfolding turn
last_turn Late = omega arith
last_turn _ = omega arith

-- a row with a fault has no fault that is tried later
not_later : (format : ℕ) (before : List Row) (row : Row) (v w : Why) → turn v < turn w → FaultAt format before row v → FaultAt format before row w → ⊥
unfolding turn
not_later format before row Late Unknown l hv hw = omega (arith, hv, hw.0)
not_later format before row Late Misplaced l hv hw = omega (arith, hv, hw.1.open_yet)
not_later format before row Late Misspelled l hv hw = omega (arith, hv, hw.1.open_yet)
not_later format before row Late Misnumbered l hv hw = omega (arith, hv, hw.1.open_yet)
not_later format before row Unknown Misplaced l hv hw = no_kind (row_kind format row) hw.0 hv.1 hw.1.is_kind
not_later format before row Unknown Misspelled l hv hw = no_kind (row_kind format row) hw.0 hv.1 hw.1.is_kind
not_later format before row Unknown Misnumbered l hv hw = no_kind (row_kind format row) hw.0 hv.1 hw.1.is_kind
not_later format before row Misplaced Misspelled l hv hw =
    both_ways (is_in_order format before hw.0) (subst (λ k. is_in_order format before k ≡ false) (same_kind (row_kind format row) hv.0 hw.0 hv.1.is_kind hw.1.is_kind) hv.2) hw.2
not_later format before row Misplaced Misnumbered l hv hw =
    both_ways (is_in_order format before hw.0) (subst (λ k. is_in_order format before k ≡ false) (same_kind (row_kind format row) hv.0 hw.0 hv.1.is_kind hw.1.is_kind) hv.2) hw.2
not_later format before row Misspelled Misnumbered l hv hw =
    let e : hw.0 ≡ hv.0 = same_kind (row_kind format row) hw.0 hv.0 hw.1.is_kind hv.1.is_kind in
    hv.3 hw.3.0 (subst (λ k. IsRow k hw.3.0 row) e hw.3.1)
not_later format before row v w l hv hw = absurd (omega (arith, l, last_turn w))

-- each has a turn of its own
same_turn : (v w : Why) → turn v ≡ turn w → v ≡ w
unfolding turn
same_turn Late Late e = refl
same_turn Unknown Unknown e = refl
same_turn Misplaced Misplaced e = refl
same_turn Misspelled Misspelled e = refl
same_turn Misnumbered Misnumbered e = refl
same_turn _ _ e = absurd (omega (arith, e))

-- so it has one
same_why : (format : ℕ) (before : List Row) (row : Row) (v w : Why) → FaultAt format before row v → FaultAt format before row w → v ≡ w
same_why format before row v w hv hw = elim (cases_order (turn v) (turn w)) [
  | inl e ↦ same_turn v w e
  | inr (inl l) ↦ absurd (not_later format before row v w l hv hw)
  | inr (inr l) ↦ absurd (not_later format before row w v l hw hv)
]

-- of two places in a list one is before the other, or they are the same
Places : List Row → List Row → Row → Row → Type 0
Places xs ys x y = ((more : List Row) × (ys ≡ xs ++ x ∷ more)) ⊎ (((xs ≡ ys) × (x ≡ y)) ⊎ ((more : List Row) × (xs ≡ ys ++ y ∷ more)))

-- so it is where one list has both
places : (xs ys : List Row) (x y : Row) (xs' ys' : List Row) → xs ++ x ∷ xs' ≡ ys ++ y ∷ ys' → Places xs ys x y
unfolding Places
places [] [] x y xs' ys' e = inr (inl (refl, heads e))
places [] (b ∷ ys) x y xs' ys' e = inl (ys, ap (λ r. r ∷ ys) (heads (sym e)))
places (a ∷ xs) [] x y xs' ys' e = inr (inr (xs, ap (λ r. r ∷ xs) (heads e)))
places (a ∷ xs) (b ∷ ys) x y xs' ys' e =
    let same : a ≡ b = heads e in
    elim (places xs ys x y xs' ys' (tails e)) [
      | inl h ↦ inl (h.0, ap₂ (λ r rs. r ∷ rs) (sym same) h.1)
      | inr (inl h) ↦ inr (inl (ap₂ (λ r rs. r ∷ rs) same h.0, h.1))
      | inr (inr h) ↦ inr (inr (h.0, ap₂ (λ r rs. r ∷ rs) same h.1))
    ]

-- the first row with a fault is one, and so is its fault
one_place : (format : ℕ) (rows : List Row) (m n : ℕ) (v w : Why) → IsFirstAt format rows m v → IsFirstAt format rows n w → (m ≡ n) × (v ≡ w)
unfolding Places
one_place format rows m n v w hv hw = elim (places hv.before hw.before hv.row hw.row hv.after hw.after (sym hv.parts ∙ hw.parts)) [
  | inl h ↦ absurd (not_both format hv.before hv.row v (next_at format [] hv.before hv.row h.0 (subst (AreNext format []) h.1 hw.fine)) hv.fault)
  | inr (inl h) ↦ (
    hv.number_is ∙ (ap (λ rs. length rs + 1) h.0 ∙ sym hw.number_is),
    same_why format hw.before hw.row v w (subst (λ r. FaultAt format hw.before r v) h.1 (subst (λ b. FaultAt format b hv.row v) h.0 hv.fault)) hw.fault,
  )
  | inr (inr h) ↦ absurd (not_both format hw.before hw.row w (next_at format [] hw.before hw.row h.0 (subst (AreNext format []) h.1 hv.fine)) hw.fault)
]

-- the fault of the row with that number
fault_of : Why → ℕ → PlanFault
fault_of Late n = faults.After n
fault_of Unknown n = faults.Record n
fault_of Misplaced n = faults.Order n
fault_of Misspelled n = faults.Number n
fault_of Misnumbered n = faults.Order n

-- a first fault is want of memory, or the want of an end row, or that of a row
data Case (format : ℕ) (rows : List Row) (f : PlanFault) : Type 0 where
  Free : f ≡ faults.NoMemory → Case format rows f
  Unended : (n : ℕ) → IsUnended format rows n → f ≡ faults.Missing n → Case format rows f
  OfRow : (n : ℕ) (why : Why) → IsFirstAt format rows n why → f ≡ fault_of why n → Case format rows f

-- one of these it is
case_of : (format : ℕ) (rows : List Row) (f : PlanFault) → IsFirstFaultIn format rows f → Case format rows f
unfolding fault_of
case_of format rows faults.NoMemory h = Free refl
case_of format rows (faults.Record n) h = OfRow n Unknown h refl
case_of format rows (faults.Number n) h = OfRow n Misspelled h refl
case_of format rows (faults.Order n) (inl h) = OfRow n Misplaced h refl
case_of format rows (faults.Order n) (inr h) = OfRow n Misnumbered h refl
case_of format rows (faults.Missing n) h = Unended n h refl
case_of format rows (faults.After n) h = OfRow n Late h refl

-- two first faults are one in each case
one_case : (format : ℕ) (rows : List Row) (f g : PlanFault) → Case format rows f → Case format rows g → f ≢ faults.NoMemory → g ≢ faults.NoMemory → f ≡ g
one_case format rows f g (Free e) hg some more = absurd (some e)
one_case format rows f g hf (Free e) some more = absurd (more e)
one_case format rows f g (Unended m hm e) (Unended n hn d) some more = e ∙ (ap faults.Missing (hm.count_is ∙ sym hn.count_is) ∙ sym d)
one_case format rows f g (Unended m hm e) (OfRow n w hn d) some more = absurd (none_at format rows n w hm.fine hn)
one_case format rows f g (OfRow m v hm e) (Unended n hn d) some more = absurd (none_at format rows m v hn.fine hm)
one_case format rows f g (OfRow m v hm e) (OfRow n w hn d) some more = let same = one_place format rows m n v w hm hn in e ∙ (ap₂ fault_of same.1 same.0 ∙ sym d)

-- at most one fault is first
pub one_fault : (format : ℕ) (rows : List Row) (f g : PlanFault) → IsFirstFaultIn format rows f → IsFirstFaultIn format rows g → f ≢ faults.NoMemory → g ≢ faults.NoMemory → f ≡ g
one_fault format rows f g hf hg some more = one_case format rows f g (case_of format rows f hf) (case_of format rows g hg) some more

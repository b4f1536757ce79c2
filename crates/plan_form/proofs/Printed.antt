-- The rows of a plan have no fault.
use Rattle.std.proofs.Common.{inl, inr, ◌≡◌, ◌^◌, sym, ℕ, ◌+◌, ◌≤◌, true, List, [], ◌∷◌, length, refl, ap, subst, ◌∙◌, arith, All}
use Rattle.std.specs.Fmt.{digits}
use Rattle.std.proofs.lemmas.List.Elements.{All-head, All-tail}
use Rattle.rows.specs.Rows.{Row}
use Rattle.plan_form.specs.declared.faults.PlanFault.{PlanFault}
use Rattle.plan_form.specs.declared.faults.PlanFault.TheVariants as faults
use Rattle.plan_form.specs.declared.kinds.Kind.{Kind}
use Rattle.plan_form.specs.declared.kinds.Kind.TheVariants as kinds
use Rattle.plan_form.specs.Kinds.{row_kind, is_numbered, since}
use Rattle.plan_form.specs.Laws.{PlanHasNoFault}
use Rattle.plan_form.specs.Parts.{PlanParts, IsWellFormed}
use Rattle.plan_form.specs.PlanRows.{Item, IsItem, IsToldIn, items, plan_row, row_of, numbered, rows_of_kind, rows_in}
use Rattle.plan_form.specs.Reading.{counted, format_of, AreNext, IsFirstAt, IsFirstFaultIn, IsFirstPlanFault, Why}
use Rattle.plan_form.proofs.Telling.{kind_of_row, kinds_had, items_fit, items_few}
use Rattle.plan_form.proofs.Walking.{picked, next_at, not_both, length-picked}
use Rattle.plan_form.proofs.Blocks.{Block, blocks_fine, picked_in_turn}

-- the rows of items that can be told are a block
items_block : (format : ℕ) (k : Kind) → since k ≤ format → (i : ℕ) (xs : List (Item k)) → All (IsItem k) xs → (is_numbered k ≡ true → i + length xs ≤ 2 ^ 32) → Block format k i (numbered (row_of k) i xs)
unfolding numbered
items_block format k le i [] fits few = tt
items_block format k le i (x ∷ xs) fits few =
    let here = All-head (IsItem k) x xs fits in (
      kind_of_row format k i x le here,
      record { item = x; fits = here; small = λ n. omega (arith, few n); row_is = refl },
      items_block format k le (i + 1) xs (All-tail (IsItem k) x xs fits) (λ n. omega (arith, few n)),
    )

-- so are the rows of each kind of a plan, in a format that can tell it
pub plan_blocks : (format : ℕ) (p : PlanParts) → IsWellFormed p → IsToldIn format p → (k : Kind) → Block format k 0 (rows_of_kind format p k)
unfolding numbered
plan_blocks format p w is k = elim (kinds_had format p is k) [
  | inl le ↦ items_block format k le 0 (items format p k) (items_fit format p w is k) (λ n. omega (arith, items_few format p w k n))
  | inr none ↦ rw none tt
]

-- the rows of a plan have no fault
pub rows_fine : (format : ℕ) (p : PlanParts) → IsWellFormed p → IsToldIn format p → AreNext format [] (rows_in format p)
unfolding numbered
rows_fine format p w is = blocks_fine format (rows_of_kind format p) (plan_blocks format p w is) (plan_row format) refl (omega arith)

-- the rows of each kind can be picked out of those of a plan
pub rows_picked : (format : ℕ) (p : PlanParts) → IsWellFormed p → IsToldIn format p → (k : Kind) → picked format k (rows_in format p) ≡ rows_of_kind format p k
rows_picked format p w is k = picked_in_turn format (rows_of_kind format p) (plan_blocks format p w is) k

-- a plan has an end row
pub rows_end : (format : ℕ) (p : PlanParts) → IsWellFormed p → IsToldIn format p → counted format kinds.End (rows_in format p) ≡ 1
unfolding numbered
rows_end format p w is = sym (length-picked format kinds.End (rows_in format p)) ∙ ap (length {A = Row}) (rows_picked format p w is kinds.End)

-- rows without a fault have no first row with one
pub none_at : (format : ℕ) (rows : List Row) (n : ℕ) (why : Why) → AreNext format [] rows → IsFirstAt format rows n why → ⊥
none_at format rows n why fine first = not_both format first.before first.row why (next_at format [] first.before first.row first.after (subst (AreNext format []) first.parts fine)) first.fault

-- no fault is the first of the rows of a plan in a format that can tell it
no_fault_in : (format : ℕ) (p : PlanParts) (f : PlanFault) → IsWellFormed p → IsToldIn format p → IsFirstFaultIn format (rows_in format p) f → f ≡ faults.NoMemory
no_fault_in format p faults.NoMemory w is first = refl
no_fault_in format p (faults.Record n) w is first = absurd (none_at format (rows_in format p) n _ (rows_fine format p w is) first)
no_fault_in format p (faults.Number n) w is first = absurd (none_at format (rows_in format p) n _ (rows_fine format p w is) first)
no_fault_in format p (faults.Order n) w is (inl first) = absurd (none_at format (rows_in format p) n _ (rows_fine format p w is) first)
no_fault_in format p (faults.Order n) w is (inr first) = absurd (none_at format (rows_in format p) n _ (rows_fine format p w is) first)
no_fault_in format p (faults.Missing n) w is first = absurd (omega (arith, first.open_yet, rows_end format p w is))
no_fault_in format p (faults.After n) w is first = absurd (none_at format (rows_in format p) n _ (rows_fine format p w is) first)

-- the first row of a plan tells its format
pub format_told : (format : ℕ) (p : PlanParts) → IsToldIn format p → format_of (rows_in format p) ≡ format
unfolding numbered row_kind digits
format_told format p (inl e) = rw e refl
format_told format p (inr e) = rw e.0 refl

-- so the rows of a plan, in whatever format, have no fault
pub no_fault : PlanHasNoFault
no_fault rows p f w are first =
    no_fault_in are.format p f w are.told (subst (λ n. IsFirstFaultIn n (rows_in are.format p) f) (format_told are.format p are.told) (subst (λ rs. IsFirstPlanFault rs f) are.rows_are first))

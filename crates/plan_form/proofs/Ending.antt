-- Where all rows are read: they are those of the plan, or the end row is missing. And how much room the rows take.
use Rattle.std.proofs.Common.{◌≡◌, ◌⊎◌, ℕ, ◌+◌, ◌<◌, ◌≤◌, ◌^◌, ◌++◌, nat_le, true, false, List, [], ◌∷◌, length, take, Option, is_some, Some, None, refl, sym, ap, subst, ◌∙◌, ◌==◌, add-zero, inl, inr, arith, length-take}
use Rattle.std.specs.Fmt.{digits}
use Rattle.std.proofs.lemmas.Bool.{cases_Bool, eqb-true, false≢true}
use Rattle.std.proofs.lemmas.List.{take_all, take_more}
use Rattle.std.proofs.lemmas.List.Sums.{sum_by-cons, sum_by-take-le, sum_by_push}
use Rattle.rows.specs.Rows.{Row, row_bytes, byte_count}
use Rattle.topology.specs.Names.{row_at}
use Rattle.plan_form.specs.declared.kinds.Kind.{Kind}
use Rattle.plan_form.specs.declared.kinds.Kind.TheVariants as kinds
use Rattle.plan_form.specs.Kinds.{newest_format, oldest_format, row_kind, place, since}
use Rattle.plan_form.specs.Parts.{PlanParts, IsWellFormed}
use Rattle.plan_form.specs.PlanRows.{AreRowsOf, IsItem, IsToldIn, end_row, numbered, plan_row, row_of, rows_of_kind, rows_in}
use Rattle.plan_form.specs.Reading.{IsRow, is_kind, is_newest, counted, last_kind, format_of, AreNext, IsUnended}
use Rattle.plan_form.specs.Taking.{IsPart, told_items, told_rows, HasRoom}
use Rattle.plan_form.proofs.Walking.{picked, length-picked, counted-push}
use Rattle.plan_form.proofs.Numbering.{length-numbered}
use Rattle.plan_form.proofs.Ordered.{fine_rises, picked-own, same_rows}
use Rattle.plan_form.proofs.Blocks.{Block}
use Rattle.plan_form.proofs.Printed.{rows_fine, rows_picked}
use Rattle.plan_form.proofs.Spelled.{none_picked}
use Rattle.plan_form.proofs.Telling.{same_place, same_rows_told}
use Rattle.plan_form.proofs.Reader.{Walked, part_counted}

-- the format of rows is a known one
known : (rows : List Row) → (format_of rows ≡ oldest_format) ⊎ (format_of rows ≡ newest_format)
known [] = inl refl
known (row ∷ rows) = elim (cases_Bool (is_newest row)) [ inl b ↦ inr (rw b refl) | inr b ↦ inl (rw b refl) ]

-- rows of a kind that follow each other without a fault are a block
picked_is_block : (format : ℕ) (k : Kind) (before rows : List Row) → AreNext format before rows → Block format k (counted format k before) (picked format k rows)
unfolding picked
picked_is_block format k before [] fine = tt
picked_is_block format k before (row ∷ rows) fine =
    let rest = picked_is_block format k (before ++ row ∷ []) rows fine.1 in
    let more = counted-push format k fine.0.kind before row fine.0.is_of.is_kind in
    elim (cases_Bool (place fine.0.kind == place k)) [
      | inl b ↦
          let same : fine.0.kind ≡ k = same_place fine.0.kind k (eqb-true _ _ b) in
          rw (fine.0.is_of.is_kind, b) (
            fine.0.is_of.is_kind ∙ ap (λ j. Some j) same,
            subst (λ j. IsRow j (counted format j before) row) same fine.0.is_row,
            subst (λ n. Block format k n (picked format k rows)) (more ∙ rw b) rest,
          )
      | inr b ↦ rw (fine.0.is_of.is_kind, b) (subst (λ n. Block format k n (picked format k rows)) (more ∙ rw b (add-zero _)) rest)
    ]

-- the end row is one alone
end_rows : (format : ℕ) (rows : List Row) → length rows ≡ 1 → Block format kinds.End 0 rows → rows ≡ end_row ∷ []
end_rows format [] one block = absurd (omega (arith, one))
end_rows format (row ∷ []) one block = ap (λ r. r ∷ []) block.1.row_is
end_rows format (row ∷ next ∷ rows) one block = absurd (omega (arith, one))

-- the row of a format tells the format
row_tells : (format : ℕ) (rows : List Row) → IsItem kinds.Plan format → format_of (plan_row format ∷ rows) ≡ format
unfolding row_kind digits
row_tells format rows (inl e) = rw e refl
row_tells format rows (inr e) = rw e refl

-- the plan row is the first row, and of the format that is read
plan_rows_are : (rows : List Row) → AreNext (format_of rows) [] rows → length (picked (format_of rows) kinds.Plan rows) ≡ 1 → picked (format_of rows) kinds.Plan rows ≡ plan_row (format_of rows) ∷ []
unfolding picked last_kind
plan_rows_are [] fine one = absurd (omega (arith, one))
plan_rows_are (row ∷ rows) fine one =
    let first : fine.0.kind ≡ kinds.Plan = same_place fine.0.kind kinds.Plan (eqb-true (place fine.0.kind) 0 fine.0.in_order) in
    let kind : row_kind (format_of (row ∷ rows)) row ≡ Some kinds.Plan = fine.0.is_of.is_kind ∙ ap (λ k. Some k) first in
    let is : IsRow kinds.Plan (counted (format_of (row ∷ rows)) kinds.Plan []) row = subst (λ k. IsRow k (counted (format_of (row ∷ rows)) k []) row) first fine.0.is_row in
    let same : format_of (row ∷ rows) ≡ is.item = ap (λ r. format_of (r ∷ rows)) is.row_is ∙ row_tells is.item rows is.fits in
    alone (format_of (row ∷ rows)) row rows kind one ∙ ap (λ r. r ∷ []) (is.row_is ∙ ap plan_row (sym same))
  where
    alone : (format : ℕ) (row : Row) (rows : List Row) → row_kind format row ≡ Some kinds.Plan → length (picked format kinds.Plan (row ∷ rows)) ≡ 1 → picked format kinds.Plan (row ∷ rows) ≡ row ∷ []
    alone format row rows kind one = single (picked format kinds.Plan rows) (picked-own format kinds.Plan kinds.Plan row rows kind refl) one
      where
        single : (more : List Row) → picked format kinds.Plan (row ∷ rows) ≡ row ∷ more → length (picked format kinds.Plan (row ∷ rows)) ≡ 1 → picked format kinds.Plan (row ∷ rows) ≡ row ∷ []
        single [] is one = is
        single (next ∷ more) is one = absurd (omega (arith, one, ap (length {A = Row}) is))

-- rows without a fault in a known format, among them a row that only the newest has, are those of a plan that the format can tell
is_told : (format : ℕ) (rows : List Row) (p : PlanParts) → (format ≡ oldest_format) ⊎ (format ≡ newest_format) → ((k : Kind) → IsPart k → picked format k rows ≡ told_rows p k) → IsToldIn format p
is_told format rows p (inr e) held = inl e
is_told format rows p (inl e) held = inr (e, none kinds.Must (omega arith, omega arith) refl, none kinds.Not (omega arith, omega arith) refl)
  where
    empty : {A : Type 0} (xs : List A) → length xs ≡ 0 → xs ≡ []
    empty [] e = refl
    empty (x ∷ xs) e = absurd (omega (arith, e))

    none : (k : Kind) → IsPart k → nat_le (since k) oldest_format ≡ false → told_items p k ≡ []
    none k part late = empty (told_items p k) (omega (arith, length-numbered (row_of k) 0 (told_items p k), ap (length {A = Row}) (sym (held k part) ∙ ap (λ f. picked f k rows) e ∙ none_picked oldest_format k rows late)))

module _ (rows : List Row) (last : Option Kind) (p : PlanParts) (w : Walked (format_of rows) rows (length rows) last p) where
  -- all rows were read
  all_taken : take (length rows) rows ≡ rows
  all_taken = take_all (length rows) rows (omega arith)

  -- no row has a fault
  all_fine : AreNext (format_of rows) [] rows
  all_fine = subst (AreNext (format_of rows) []) all_taken w.fine

  -- where the last row is the end row, the rows are those of the plan
  pub walk_done : IsWellFormed p → is_kind last kinds.End ≡ true → AreRowsOf rows p
  unfolding numbered counted
  walk_done formed ended = record {
    format = format_of rows;
    told = told_so;
    rows_are = same_rows (format_of rows) 0 0 rows (rows_in (format_of rows) p) (fine_rises (format_of rows) rows all_fine)
        (fine_rises (format_of rows) (rows_in (format_of rows) p) (rows_fine (format_of rows) p formed told_so)) (λ k. of_kind k ∙ sym (rows_picked (format_of rows) p formed told_so k));
  }
    where
      held : (k : Kind) → IsPart k → picked (format_of rows) k rows ≡ told_rows p k
      held k part = ap (picked (format_of rows) k) (sym all_taken) ∙ w.held k part

      told_so : IsToldIn (format_of rows) p
      told_so = is_told (format_of rows) rows p (known rows) held

      some : (o : Option Kind) → is_kind o kinds.End ≡ true → is_some o ≡ true
      some None e = absurd (false≢true e)
      some (Some k) e = refl

      count : (k : Kind) → counted (format_of rows) k (take (length rows) rows) ≡ 1 → length (picked (format_of rows) k rows) ≡ 1
      count k one = length-picked (format_of rows) k rows ∙ (ap (counted (format_of rows) k) (sym all_taken) ∙ one)

      of_kind : (k : Kind) → picked (format_of rows) k rows ≡ rows_of_kind (format_of rows) p k
      of_kind kinds.Plan = plan_rows_are rows all_fine (count kinds.Plan (w.begun ∙ rw (some last ended)))
      of_kind kinds.End = end_rows (format_of rows) (picked (format_of rows) kinds.End rows) (count kinds.End (w.ended ∙ rw ended)) (picked_is_block (format_of rows) kinds.End [] rows all_fine)
      of_kind k = held k (omega arith, omega arith) ∙ sym (same_rows_told (format_of rows) p k (omega arith, omega arith))

  -- where it is not, the end row is missing
  pub walk_unended : is_kind last kinds.End ≡ false → IsUnended (format_of rows) rows (length rows)
  walk_unended open_yet = record { count_is = refl; fine = all_fine; open_yet = ap (counted (format_of rows) kinds.End) (sym all_taken) ∙ (w.ended ∙ rw open_yet) }

-- rows of a kind are no more than all
counted-le : (format : ℕ) (k : Kind) (rows : List Row) → counted format k rows ≤ length rows
unfolding counted
counted-le format k [] = omega arith
counted-le format k (row ∷ rows) = elim (cases_Bool (is_kind (row_kind format row) k)) [
  | inl e ↦ rw e (omega (arith, counted-le format k rows))
  | inr e ↦ rw e (omega (arith, counted-le format k rows))
]

-- the rows of a kind have no more bytes than all
picked_bytes : (format : ℕ) (k : Kind) (rows : List Row) → byte_count (picked format k rows) ≤ byte_count rows
unfolding picked
picked_bytes format k [] = omega arith
picked_bytes format k (row ∷ rows) = elim (cases_Bool (is_kind (row_kind format row) k)) [
  | inl e ↦ rw e (omega (arith, picked_bytes format k rows, sum_by-cons row_bytes row rows, sum_by-cons row_bytes row (picked format k rows)))
  | inr e ↦ rw e (omega (arith, picked_bytes format k rows, sum_by-cons row_bytes row rows))
]

-- there is room for the next row
pub room_left : (format : ℕ) (rows : List Row) (r : ℕ) (last : Option Kind) (p : PlanParts) → Walked format rows r last p → r < length rows → length rows < 2 ^ 32 → byte_count rows < 2 ^ 31 → HasRoom (row_at rows r) p
room_left format rows r last p w lt few small = record {
  numbers = λ k part. omega (arith, part_counted format rows r last p w lt k part, counted-le format k (take r rows), length-take r rows, lt, few);
  bytes =
      let upto : byte_count (take (r + 1) rows) ≡ byte_count (take r rows) + row_bytes (row_at rows r) = ap byte_count (take_more rows r [] lt) ∙ sum_by_push row_bytes (take r rows) (row_at rows r) in
      let held : byte_count (told_rows p kinds.Path) ≤ byte_count (take r rows) = subst (λ rs. byte_count rs ≤ byte_count (take r rows)) (w.held kinds.Path (omega arith, omega arith)) (picked_bytes format kinds.Path (take r rows)) in
      omega (arith, upto, held, sum_by-take-le row_bytes rows (r + 1), small);
}

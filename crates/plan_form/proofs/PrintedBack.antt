-- The rows of a plan, printed, are read back.
use Rattle.std.proofs.Common.{refl, ◌≡◌, inl, ℕ, ◌+◌, ◌<◌, List, [], ◌∷◌, length, arith}
use Rattle.std.specs.List.{flat_map}
use Rattle.std.proofs.lemmas.List.Elements.{All-cons, All-append}
use Rattle.rows.specs.Rows.{Row, AllFilled, rows_of, text_of}
use Rattle.rows.specs.Laws.{ReadsBack}
use Rattle.plan_form.specs.declared.kinds.Kind.{Kind}
use Rattle.plan_form.specs.Kinds.{newest_format, in_turn}
use Rattle.plan_form.specs.Parts.{PlanParts}
use Rattle.plan_form.specs.PlanRows.{items, row_of, numbered, rows_of_kind, plan_rows, AreRowsOf}
use Rattle.plan_form.specs.Laws.{PrintedIsReadBack}
use Rattle.plan_form.proofs.Distinct.{one_reading}
use Rattle.plan_form.proofs.Printed.{no_fault}
use Rattle.plan_form.proofs.Telling.{row_filled}

-- a row with a field is filled
abbrev IsFilled : Row → Type 0
IsFilled row = 0 < length row

-- where there is no row, each is filled
no_row : AllFilled []
no_row = λ k d l. absurd (omega (arith, l))

-- numbered rows that have fields are filled
numbered_filled : {A : Type 0} (f : ℕ → A → Row) → ((i : ℕ) (x : A) → IsFilled (f i x)) → (i : ℕ) (xs : List A) → AllFilled (numbered f i xs)
unfolding numbered
numbered_filled f each i [] = no_row
numbered_filled f each i (x ∷ xs) = All-cons IsFilled (f i x) (numbered f (i + 1) xs) (each i x) (numbered_filled f each (i + 1) xs)

-- the rows of several kinds are filled
kinds_filled : (format : ℕ) (p : PlanParts) (ks : List Kind) → AllFilled (flat_map (rows_of_kind format p) ks)
kinds_filled format p [] = no_row
kinds_filled format p (k ∷ ks) =
    All-append IsFilled (rows_of_kind format p k) (flat_map (rows_of_kind format p) ks) (numbered_filled (row_of k) (row_filled k) 0 (items format p k)) (kinds_filled format p ks)

-- so the rows of a plan are read back, and are those of no other plan
pub plan_read_back : ReadsBack → PrintedIsReadBack
unfolding numbered
plan_read_back back p formed =
    let same : rows_of (text_of (plan_rows p)) ≡ plan_rows p = back (plan_rows p) (kinds_filled newest_format p in_turn) refl in
    let are : AreRowsOf (rows_of (text_of (plan_rows p))) p = record { format = newest_format; told = inl refl; rows_are = same } in
    record {
      rows = same;
      only = λ q other reads. one_reading (rows_of (text_of (plan_rows p))) q p other formed reads are;
      fine = λ f first. no_fault (rows_of (text_of (plan_rows p))) p f formed are first;
    }

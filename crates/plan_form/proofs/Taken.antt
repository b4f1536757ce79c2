-- A plan that takes the row of an item has the item besides.
use Rattle.std.proofs.Common.{◌≡◌, ◌+◌, ◌==◌, false, cond, [], ◌∷◌, ◌++◌, length, inl, inr, refl, sym, ap, subst, ◌∙◌, arith}
use Rattle.std.proofs.lemmas.Bool.{cases_Bool, eqb-true, ne_eqb}
use Rattle.std.proofs.lemmas.List.{append-nil}
use Rattle.rows.specs.Rows.{Row}
use Rattle.plan_form.specs.declared.kinds.Kind.{Kind}
use Rattle.plan_form.specs.Kinds.{place}
use Rattle.plan_form.specs.Parts.{PlanParts}
use Rattle.plan_form.specs.PlanRows.{row_of, numbered}
use Rattle.plan_form.specs.Reading.{IsRow}
use Rattle.plan_form.specs.Taking.{IsPart, told_items, told_rows, AddsItem, TakesItem}
use Rattle.plan_form.proofs.Numbering.{numbered-push}
use Rattle.plan_form.proofs.Telling.{same_place}

-- the items of every other kind are the same
abbrev pub SameBut : Kind → PlanParts → PlanParts → Type 0
SameBut k p q = (j : Kind) → (place k == place j) ≡ false → told_items q j ≡ told_items p j

-- so the plan takes the row
pub takes_item : (k : Kind) (row : Row) (p q : PlanParts) → AddsItem k row (told_items p k) (told_items q k) → SameBut k p q → TakesItem k row p q
takes_item k row p q adds same = record {
  is_row = record { item = adds.item; fits = adds.fits; small = adds.small; row_is = adds.row_is };
  rows = λ j part. rows j;
}
  where
    more : told_rows q k ≡ told_rows p k ++ row ∷ []
    more =
        let number : 0 + length (told_items p k) ≡ length (told_items p k) = omega arith in
        ap (numbered (row_of k) 0) adds.more ∙ (numbered-push (row_of k) 0 (told_items p k) adds.item ∙ ap (λ r. told_rows p k ++ r ∷ []) (ap (λ n. row_of k n adds.item) number ∙ sym adds.row_is))

    rows : (j : Kind) → told_rows q j ≡ told_rows p j ++ cond (place k == place j) (row ∷ []) []
    rows j = elim (cases_Bool (place k == place j)) [
      | inl b ↦ rw b (subst (λ i. told_rows q i ≡ told_rows p i ++ row ∷ []) (same_place k j (eqb-true _ _ b)) more)
      | inr b ↦ rw b (ap (numbered (row_of j) 0) (same j b) ∙ sym (append-nil _))
    ]

-- the plan row and the end row change nothing
pub takes_frame : (k : Kind) (row : Row) (p : PlanParts) → (IsPart k → ⊥) → IsRow k (length (told_items p k)) row → TakesItem k row p p
takes_frame k row p no_part is = record { is_row = is; rows = λ j part. sym (append-nil _) ∙ ap (λ rs. told_rows p j ++ rs) (none j part) }
  where
    none : (j : Kind) → IsPart j → [] ≡ cond (place k == place j) (row ∷ []) []
    none j part = rw (ne_eqb (place k) (place j) (λ e. no_part (omega (arith, e, part.0), omega (arith, e, part.1)))) refl

-- What the reader's loop keeps, its steps, and its refusals.
use Rattle.std.proofs.Common.{◌≡◌, ℕ, ◌+◌, ◌<◌, ◌==◌, true, false, cond, List, [], ◌∷◌, ◌++◌, length, take, drop, Option, Some, None, is_some, refl, sym, ap, subst, ◌∙◌, inl, inr, arith, length-take}
use Rattle.std.proofs.lemmas.Bool.{and_parts, cases_Bool, ltb-true, ne_eqb}
use Rattle.std.proofs.lemmas.List.{drop_more, take_more, take-append-drop}
use Rattle.tomo_base.specs.Sets.{one_if}
use Rattle.rows.specs.Rows.{Row}
use Rattle.topology.specs.Names.{row_at}
use Rattle.plan_form.specs.declared.faults.PlanFault.{PlanFault}
use Rattle.plan_form.specs.declared.faults.PlanFault.TheVariants as faults
use Rattle.plan_form.specs.declared.kinds.Kind.{Kind}
use Rattle.plan_form.specs.declared.kinds.Kind.TheVariants as kinds
use Rattle.plan_form.specs.Kinds.{is_numbered, place}
use Rattle.plan_form.specs.Parts.{PlanParts}
use Rattle.plan_form.specs.PlanRows.{numbered, row_of}
use Rattle.plan_form.specs.Reading.{IsRow, is_kind, counted, last_kind, may_follow, IsNext, AreNext, FaultAt, Why, Late, Unknown, Misplaced, Misspelled, Misnumbered, IsFirstAt, IsFirstFaultIn}
use Rattle.plan_form.specs.Taking.{no_parts, IsPart, told_items, told_rows, TakesItem, RefusesItem, IsNextKind, RefusesKind}
use Rattle.plan_form.proofs.Numbering.{length-numbered}
use Rattle.plan_form.proofs.Telling.{bare_row, numbered_part}
use Rattle.plan_form.proofs.Walking.{picked, length-picked, counted-push, picked-push, last_kind-push, AreNext-push}

-- the first r rows have no fault, the last of them is of the kind `last`, and the plan is what they say
pub record Walked (format : ℕ) (rows : List Row) (r : ℕ) (last : Option Kind) (p : PlanParts) : Type 0 where
  pub fine : AreNext format [] (take r rows)
  pub last_is : last_kind format (take r rows) ≡ last
  pub begun : counted format kinds.Plan (take r rows) ≡ one_if (is_some last)
  pub ended : counted format kinds.End (take r rows) ≡ one_if (is_kind last kinds.End)
  pub held : (k : Kind) → IsPart k → picked format k (take r rows) ≡ told_rows p k

-- no row yet
pub walk_none : (format : ℕ) (rows : List Row) → Walked format rows 0 None no_parts
unfolding counted last_kind picked numbered
walk_none format rows = record { fine = tt; last_is = refl; begun = refl; ended = refl; held = λ k part. none k part }
  where
    none : (k : Kind) → IsPart k → [] ≡ told_rows no_parts k
    none kinds.Plan part = absurd (omega (arith, part.0))
    none kinds.End part = absurd (omega (arith, part.1))
    none _ part = refl

module _ (format : ℕ) (rows : List Row) (r : ℕ) (last : Option Kind) (p : PlanParts) (w : Walked format rows r last p) (lt : r < length rows) where
  -- the next row comes to those before
  pub one_row_more : take (r + 1) rows ≡ take r rows ++ row_at rows r ∷ []
  one_row_more = take_more rows r [] lt

  -- as many rows of a kind as the plan has items of it
  pub part_counted : (k : Kind) → IsPart k → length (told_items p k) ≡ counted format k (take r rows)
  part_counted k part = sym (length-numbered (row_of k) 0 (told_items p k)) ∙ (sym (ap (length {A = Row}) (w.held k part)) ∙ length-picked format k (take r rows))

  -- the row has the number of its place
  in_place : (k : Kind) (row : Row) → IsRow k (length (told_items p k)) row → IsRow k (counted format k (take r rows)) row
  in_place k row is = elim (cases_Bool (is_numbered k)) [ inl b ↦ subst (λ n. IsRow k n row) (part_counted k (numbered_part k b)) is | inr b ↦ bare_row k _ _ row b is ]

  -- a row with the number of its place has that of the plan's next item
  out_of_place : (k : Kind) (row : Row) → IsRow k (counted format k (take r rows)) row → IsRow k (length (told_items p k)) row
  out_of_place k row is = elim (cases_Bool (is_numbered k)) [ inl b ↦ subst (λ n. IsRow k n row) (sym (part_counted k (numbered_part k b))) is | inr b ↦ bare_row k _ _ row b is ]

  -- before the end row there is none
  no_end : is_kind last kinds.End ≡ false → counted format kinds.End (take r rows) ≡ 0
  no_end open_yet = w.ended ∙ rw open_yet refl

  -- a row of a kind that may come, with its number, follows
  follows : (k : Kind) (p' : PlanParts) → IsNextKind format last (row_at rows r) k → TakesItem k (row_at rows r) p p' → IsNext format (take r rows) (row_at rows r)
  follows k p' next takes = record {
    kind = k;
    is_of = record { open_yet = no_end next.open_yet; is_kind = next.kind };
    in_order = rw w.last_is next.in_order;
    is_row = in_place k (row_at rows r) takes.is_row;
  }

  -- there is one plan row, the first
  begins : (k : Kind) → may_follow last k ≡ true → one_if (is_some last) + one_if (place k == place kinds.Plan) ≡ 1
  begins k order = one last order
    where
      one : (o : Option Kind) → may_follow o k ≡ true → one_if (is_some o) + one_if (place k == 0) ≡ 1
      one None order = rw order refl
      one (Some j) order = rw (ne_eqb (place k) 0 (λ e. absurd (omega (arith, e, ltb-true 0 (place k) (and_parts _ _ order).0)))) refl

  -- one row more
  pub walk_on : (k : Kind) (p' : PlanParts) → IsNextKind format last (row_at rows r) k → TakesItem k (row_at rows r) p p' → Walked format rows (r + 1) (Some k) p'
  walk_on k p' next takes = record {
    fine = rw one_row_more (AreNext-push format (take r rows) (row_at rows r) w.fine (follows k p' next takes));
    last_is = rw one_row_more (last_kind-push format (take r rows) (row_at rows r) ∙ next.kind);
    begun = rw one_row_more (counted-push format kinds.Plan k (take r rows) (row_at rows r) next.kind ∙ rw w.begun (begins k next.in_order));
    ended = rw one_row_more (counted-push format kinds.End k (take r rows) (row_at rows r) next.kind ∙ rw (no_end next.open_yet) (omega arith));
    held = λ j part. rw one_row_more (picked-push format j k (take r rows) (row_at rows r) next.kind ∙ (ap (λ rs. rs ++ cond (place k == place j) (row_at rows r ∷ []) []) (w.held j part) ∙ sym (takes.rows j part)));
  }

  -- a row with a fault is the first
  first_fault : (why : Why) → FaultAt format (take r rows) (row_at rows r) why → IsFirstAt format rows (r + 1) why
  first_fault why fault = record {
    before = take r rows;
    row = row_at rows r;
    after = drop (r + 1) rows;
    parts = sym (take-append-drop r rows) ∙ ap (λ rs. take r rows ++ rs) (drop_more rows r [] lt);
    number_is = (let taken = length-take r rows in omega (arith, taken, lt));
    fine = w.fine;
    fault = fault;
  }

  -- the fault of a row that is of no kind that may come
  pub kind_refused : (f : PlanFault) → RefusesKind format last (r + 1) (row_at rows r) f → IsFirstFaultIn format rows f
  kind_refused faults.NoMemory h = tt
  kind_refused (faults.Record n) h = subst (λ m. IsFirstAt format rows m Unknown) (sym h.0) (first_fault Unknown (no_end h.1, h.2))
  kind_refused (faults.Number n) h = absurd h
  kind_refused (faults.Order n) h = inl (subst (λ m. IsFirstAt format rows m Misplaced) (sym h.0) (first_fault Misplaced (h.2.0, record { open_yet = no_end h.1; is_kind = h.2.1 }, rw w.last_is h.2.2)))
  kind_refused (faults.Missing n) h = absurd h
  kind_refused (faults.After n) h = subst (λ m. IsFirstAt format rows m Late) (sym h.0) (first_fault Late (late h.1))
    where
      late : is_kind last kinds.End ≡ true → 0 < counted format kinds.End (take r rows)
      late e = rw (w.ended, e) (omega arith)

  -- the fault of a row of a kind that may come
  pub row_refused : (k : Kind) (f : PlanFault) → IsNextKind format last (row_at rows r) k → RefusesItem k (length (told_items p k)) (r + 1) (row_at rows r) f → IsFirstFaultIn format rows f
  row_refused k faults.NoMemory next h = tt
  row_refused k (faults.Record n) next h = absurd h
  row_refused k (faults.Number n) next h = subst (λ m. IsFirstAt format rows m Misspelled) (sym h.0) (first_fault Misspelled (k, record { open_yet = no_end next.open_yet; is_kind = next.kind }, rw w.last_is next.in_order, h.1))
  row_refused k (faults.Order n) next h =
      inr (subst (λ m. IsFirstAt format rows m Misnumbered) (sym h.0) (first_fault Misnumbered (k, record { open_yet = no_end next.open_yet; is_kind = next.kind }, rw w.last_is next.in_order, h.1, λ is. h.2 (out_of_place k (row_at rows r) is))))
  row_refused k (faults.Missing n) next h = absurd h
  row_refused k (faults.After n) next h = absurd h

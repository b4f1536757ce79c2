-- Different plans have different rows.
use Rattle.std.proofs.Common.{◌≡◌, ℕ, ◌+◌, List, [], ◌∷◌, length, refl, sym, ap, ap₂, subst, ◌∙◌, arith, All}
use Rattle.std.proofs.lemmas.List.Elements.{All-head, All-tail}
use Rattle.plan_form.specs.declared.kinds.Kind.{Kind}
use Rattle.plan_form.specs.declared.kinds.Kind.TheVariants as kinds
use Rattle.plan_form.specs.Laws.{OneReading}
use Rattle.plan_form.specs.Parts.{PlanParts, IsWellFormed}
use Rattle.plan_form.specs.PlanRows.{Item, IsItem, IsToldIn, items, row_of, numbered, rows_in}
use Rattle.plan_form.specs.Reading.{format_of}
use Rattle.plan_form.proofs.Joined.{heads, tails}
use Rattle.plan_form.proofs.Printed.{rows_picked, format_told}
use Rattle.plan_form.proofs.Telling.{row_injective, items_fit}
use Rattle.plan_form.proofs.Walking.{picked}

-- items are equal where their rows are
items_injective : (k : Kind) (i : ℕ) (xs ys : List (Item k)) → All (IsItem k) xs → All (IsItem k) ys → numbered (row_of k) i xs ≡ numbered (row_of k) i ys → xs ≡ ys
unfolding numbered
items_injective k i [] [] hx hy e = refl
items_injective k i [] (y ∷ ys) hx hy e = absurd (omega (arith, ap (length {A = _}) e))
items_injective k i (x ∷ xs) [] hx hy e = absurd (omega (arith, ap (length {A = _}) e))
items_injective k i (x ∷ xs) (y ∷ ys) hx hy e =
    ap₂ (λ v vs. v ∷ vs) (row_injective k i x y (All-head (IsItem k) x xs hx) (All-head (IsItem k) y ys hy) (heads e))
    (items_injective k (i + 1) xs ys (All-tail (IsItem k) x xs hx) (All-tail (IsItem k) y ys hy) (tails e))

-- plans with equal rows in one format are equal
rows_injective : (format : ℕ) (p q : PlanParts) → IsWellFormed p → IsWellFormed q → IsToldIn format p → IsToldIn format q → rows_in format p ≡ rows_in format q → p ≡ q
rows_injective format p q hp hq tp tq e =
    parts_equal (same kinds.Node) (same kinds.Link) (same kinds.Must) (same kinds.Not) (same kinds.Monitor) (same kinds.Pocket) (same kinds.Path) (same kinds.Recipe)
  where
    same : (k : Kind) → items format p k ≡ items format q k
    same k = items_injective k 0 (items format p k) (items format q k) (items_fit format p hp tp k) (items_fit format q hq tq k)
        (sym (rows_picked format p hp tp k) ∙ (ap (picked format k) e ∙ rows_picked format q hq tq k))

    parts_equal : p.names ≡ q.names → p.links ≡ q.links → p.forced ≡ q.forced → p.barred ≡ q.barred → p.monitors ≡ q.monitors → p.pockets ≡ q.pockets → p.paths ≡ q.paths → p.recipes ≡ q.recipes → p ≡ q
    parts_equal names links forced barred monitors pockets paths recipes i = record {
      names = names i;
      links = links i;
      forced = forced i;
      barred = barred i;
      monitors = monitors i;
      pockets = pockets i;
      paths = paths i;
      recipes = recipes i;
    }

-- rows are those of one plan at most, since the first row tells the format
pub one_reading : OneReading
one_reading rows p q hp hq are others =
    let format : are.format ≡ others.format =
    sym (format_told are.format p are.told) ∙ (ap format_of (sym are.rows_are ∙ others.rows_are) ∙ format_told others.format q others.told) in
    rows_injective others.format p q hp hq (subst (λ n. IsToldIn n p) format are.told) others.told
    (sym (subst (λ n. rows ≡ rows_in n p) format are.rows_are) ∙ others.rows_are)

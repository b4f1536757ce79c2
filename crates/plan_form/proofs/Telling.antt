-- What the rows of each kind tell, kind by kind, and what that comes to whatever the kind is.
use Rattle.std.proofs.Common.{◌≡◌, ◌⊎◌, inl, inr, ℕ, ◌<◌, ◌≤◌, ◌^◌, true, false, [], ◌∷◌, length, slice_get, Some, refl, sym, ap, ap₂, ◌∙◌, arith, All}
use Rattle.std.specs.Fmt.{decimal}
use Rattle.std.proofs.lemmas.Bool.{both_ways, false≢true, le-leb}
use Rattle.std.proofs.lemmas.Option.{same_Some}
use Rattle.std.proofs.lemmas.Slice.Eq.{bytes_eq-Decides}
use Rattle.std.proofs.lemmas.List.Elements.{All-cons}
use Rattle.rows.specs.Rows.{Row}
use Rattle.plan_form.specs.declared.kinds.Kind.{Kind}
use Rattle.plan_form.specs.declared.kinds.Kind.TheVariants as kinds
use Rattle.plan_form.specs.Kinds.{newest_format, oldest_format, field, is_format, is_numbered, in_turn, row_kind, place, since}
use Rattle.plan_form.specs.Parts.{PlanParts, IsSmall, IsWellFormed}
use Rattle.plan_form.specs.PlanRows.{Item, IsItem, items, row_of, numbered, rows_of_kind, IsToldIn}
use Rattle.plan_form.specs.Reading.{IsRow}
use Rattle.plan_form.specs.Taking.{IsPart, told_rows}
use Rattle.plan_form.proofs.Texts.{number_injective, numbers_injective, terms_injective}

-- a place is that of one kind
in_turn_at : (k : Kind) → slice_get in_turn (place k) ≡ Some k
in_turn_at kinds.Plan = refl
in_turn_at _ = refl

-- kinds with one place are one
pub same_place : (j k : Kind) → place j ≡ place k → j ≡ k
same_place j k e = same_Some j k (sym (in_turn_at j) ∙ (ap (slice_get in_turn) e ∙ in_turn_at k))

-- a format that can tell some plan is known
pub told_known : (format : ℕ) (p : PlanParts) → IsToldIn format p → (format ≡ oldest_format) ⊎ (format ≡ newest_format)
told_known format p (inl e) = inr e
told_known format p (inr e) = inl e.0

-- the number of a known format is that of a format
known_format : (format : ℕ) → (format ≡ oldest_format) ⊎ (format ≡ newest_format) → is_format (decimal format) ≡ true
known_format format (inl e) = rw (e, (bytes_eq-Decides (decimal oldest_format) (decimal oldest_format)).1 refl) refl
known_format format (inr e) = rw (e, (bytes_eq-Decides (decimal newest_format) (decimal newest_format)).1 refl) (grind arith)

-- the row of an item is of the item's kind, where the format has the kind
pub kind_of_row : (format : ℕ) (k : Kind) (i : ℕ) (x : Item k) → since k ≤ format → IsItem k x → row_kind format (row_of k i x) ≡ Some k
unfolding row_kind
kind_of_row format kinds.Plan i x le fits = rw (le-leb 1 format le, known_format x fits) refl
kind_of_row format kinds.Node i x le fits = rw (le-leb 1 format le, fits) refl
kind_of_row format kinds.Must i x le fits = rw (le-leb 2 format le) refl
kind_of_row format kinds.Not i x le fits = rw (le-leb 2 format le) refl
kind_of_row format _ i x le fits = rw (le-leb 1 format le) refl

-- the row of an item has a field
pub row_filled : (k : Kind) (i : ℕ) (x : Item k) → 0 < length (row_of k i x)
row_filled kinds.Plan i x = omega arith
row_filled _ i x = omega arith

-- where a kind is numbered, the second field of its rows is their number
pub second_field : (k : Kind) (i : ℕ) (x : Item k) → is_numbered k ≡ true → field (row_of k i x) 1 ≡ decimal i
second_field kinds.Node i x numbered = refl
second_field kinds.Link i x numbered = refl
second_field kinds.Pocket i x numbered = refl
second_field kinds.Path i x numbered = refl
second_field kinds.Recipe i x numbered = refl
second_field _ i x numbered = absurd (false≢true numbered)

-- where it is not, its rows are alike whatever their number
pub any_number : (k : Kind) (i j : ℕ) (x : Item k) → is_numbered k ≡ false → row_of k i x ≡ row_of k j x
any_number kinds.Plan i j x bare = refl
any_number kinds.Must i j x bare = refl
any_number kinds.Not i j x bare = refl
any_number kinds.Monitor i j x bare = refl
any_number kinds.End i j x bare = refl
any_number _ i j x bare = absurd (false≢true (sym bare))

-- so it is a row of its kind with any number
pub bare_row : (k : Kind) (i j : ℕ) (row : Row) → is_numbered k ≡ false → IsRow k i row → IsRow k j row
bare_row k i j row bare is = record { item = is.item; fits = is.fits; small = λ numbered. absurd (both_ways (is_numbered k) bare numbered); row_is = is.row_is ∙ any_number k i j is.item bare }

-- a numbered kind tells a part of the plan
pub numbered_part : (k : Kind) → is_numbered k ≡ true → IsPart k
numbered_part kinds.Plan numbered = absurd (false≢true numbered)
numbered_part kinds.End numbered = absurd (false≢true numbered)
numbered_part _ numbered = (omega arith, omega arith)

-- a part of the plan is told by the same rows in every format
pub same_rows_told : (format : ℕ) (p : PlanParts) (k : Kind) → IsPart k → rows_of_kind format p k ≡ told_rows p k
same_rows_told format p kinds.Plan part = absurd (omega (arith, part.0))
same_rows_told format p _ part = refl

-- different items have different rows
pub row_injective : (k : Kind) (i : ℕ) (x y : Item k) → IsItem k x → IsItem k y → row_of k i x ≡ row_of k i y → x ≡ y
row_injective k i x y fx fy e = by k x y fx fy (λ place. ap (λ row. field row place) e)
  where
    by : (k : Kind) (x y : Item k) → IsItem k x → IsItem k y → ((place : ℕ) → field (row_of k i x) place ≡ field (row_of k i y) place) → x ≡ y
    by kinds.Plan x y fx fy same = number_injective x y (small x fx) (small y fy) (same 1)
      where
        small : (format : ℕ) → (format ≡ oldest_format) ⊎ (format ≡ newest_format) → IsSmall format
        small format (inl e) = omega (arith, e)
        small format (inr e) = omega (arith, e)
    by kinds.Node x y fx fy same = same 2
    by kinds.Link x y fx fy same = ap₂ (λ a b. record { a = a; b = b }) (number_injective x.a y.a fx.0 fy.0 (same 2)) (number_injective x.b y.b fx.1 fy.1 (same 3))
    by kinds.Must x y fx fy same = number_injective x y fx fy (same 1)
    by kinds.Not x y fx fy same = number_injective x y fx fy (same 1)
    by kinds.Monitor x y fx fy same = number_injective x y fx fy (same 1)
    by kinds.Pocket x y fx fy same = ap₂ (λ n ns. record { need = n; nodes = ns }) (number_injective x.need y.need fx.0 fy.0 (same 2)) (numbers_injective x.nodes y.nodes fx.1 fy.1 (same 3))
    by kinds.Path x y fx fy same = numbers_injective x y fx fy (same 2)
    by kinds.Recipe x y fx fy same = terms_injective x y fx fy (same 2)
    by kinds.End x y fx fy same = refl

-- the items of a plan that can be spelled can be told
pub items_fit : (format : ℕ) (p : PlanParts) → IsWellFormed p → IsToldIn format p → (k : Kind) → All (IsItem k) (items format p k)
items_fit format p w is kinds.Plan = λ k d l. one k d l
  where
    one : All (IsItem kinds.Plan) (format ∷ [])
    one = All-cons (IsItem kinds.Plan) format [] (told_known format p is) (λ k d l. absurd (omega (arith, l)))
items_fit format p w is kinds.Node = w.names.each
items_fit format p w is kinds.Link = w.links.each
items_fit format p w is kinds.Must = w.forced
items_fit format p w is kinds.Not = w.barred
items_fit format p w is kinds.Monitor = w.monitors
items_fit format p w is kinds.Pocket = w.pockets.each
items_fit format p w is kinds.Path = w.paths.each
items_fit format p w is kinds.Recipe = w.recipes.each
items_fit format p w is kinds.End = λ k d l. tt

-- and their numbers have 32 bits
pub items_few : (format : ℕ) (p : PlanParts) → IsWellFormed p → (k : Kind) → is_numbered k ≡ true → length (items format p k) < 2 ^ 32
items_few format p w kinds.Node numbered = w.names.few
items_few format p w kinds.Link numbered = w.links.few
items_few format p w kinds.Pocket numbered = w.pockets.few
items_few format p w kinds.Path numbered = let few = w.paths.few in omega (arith, few)
items_few format p w kinds.Recipe numbered = w.recipes.few
items_few format p w _ numbered = absurd (false≢true numbered)

-- a format that can tell a plan has the kinds of its rows
pub kinds_had : (format : ℕ) (p : PlanParts) → IsToldIn format p → (k : Kind) → (since k ≤ format) ⊎ (items format p k ≡ [])
kinds_had format p (inl e) kinds.Must = inl (omega (arith, e))
kinds_had format p (inl e) kinds.Not = inl (omega (arith, e))
kinds_had format p (inr e) kinds.Must = inr e.1
kinds_had format p (inr e) kinds.Not = inr e.2
kinds_had format p (inl e) _ = inl (omega (arith, e))
kinds_had format p (inr e) _ = inl (omega (arith, e.0))

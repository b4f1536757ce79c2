-- A plan with other items of one kind, and what becomes of it where one item more is added, or refused.
use Rattle.std.proofs.Common.{◌≡◌, ℕ, ◌+◌, ◌<◌, ◌^◌, ◌==◌, true, false, List, [], ◌∷◌, ◌++◌, length, Some, Result, Ok, Err, OnOk, OnErr, inl, inr, refl, sym, ap, ◌∙◌, subst, arith, length-append, All}
use Rattle.std.specs.Fmt.{decimal}
use Rattle.std.proofs.lemmas.Bool.{cases_Bool, eqb-true, false≢true}
use Rattle.std.proofs.lemmas.List.Elements.{All-push}
use Rattle.rows.specs.Rows.{Row}
use Rattle.plan_form.specs.declared.faults.PlanFault.{PlanFault}
use Rattle.plan_form.specs.declared.kinds.Kind.{Kind}
use Rattle.plan_form.specs.declared.kinds.Kind.TheVariants as kinds
use Rattle.plan_form.specs.Kinds.{newest_format, field, is_numbered, place}
use Rattle.plan_form.specs.Parts.{PlanParts, IsListOf, IsSmall, IsWellFormed}
use Rattle.plan_form.specs.PlanRows.{Item, IsItem}
use Rattle.plan_form.specs.Taking.{IsPart, told_items, AddsItem, TakesItem}
use Rattle.plan_form.specs.Values.{Spells}
use Rattle.plan_form.proofs.KindRows.{Tells, adds_item}
use Rattle.plan_form.proofs.Taken.{takes_item}
use Rattle.plan_form.proofs.Telling.{items_few, items_fit, same_place}

-- the plan with these items of the kind
abbrev pub with_told : (k : Kind) → PlanParts → List (Item k) → PlanParts
with_told kinds.Plan p xs = p
with_told kinds.Node p xs = record p { names = xs }
with_told kinds.Link p xs = record p { links = xs }
with_told kinds.Must p xs = record p { forced = xs }
with_told kinds.Not p xs = record p { barred = xs }
with_told kinds.Monitor p xs = record p { monitors = xs }
with_told kinds.Pocket p xs = record p { pockets = xs }
with_told kinds.Path p xs = record p { paths = xs }
with_told kinds.Recipe p xs = record p { recipes = xs }
with_told kinds.End p xs = p

-- it has these items
told_own : (k : Kind) (p : PlanParts) (xs : List (Item k)) → IsPart k → told_items (with_told k p xs) k ≡ xs
told_own kinds.Plan p xs part = absurd (omega (arith, part.0))
told_own kinds.End p xs part = absurd (omega (arith, part.1))
told_own _ p xs part = refl

-- it has the same items of every other kind
told_other : (k j : Kind) (p : PlanParts) (xs : List (Item k)) → (place k == place j) ≡ false → told_items (with_told k p xs) j ≡ told_items p j
told_other kinds.Plan j p xs other = refl
told_other kinds.End j p xs other = refl
told_other kinds.Node kinds.Node p xs other = absurd (false≢true (sym other))
told_other kinds.Link kinds.Link p xs other = absurd (false≢true (sym other))
told_other kinds.Must kinds.Must p xs other = absurd (false≢true (sym other))
told_other kinds.Not kinds.Not p xs other = absurd (false≢true (sym other))
told_other kinds.Monitor kinds.Monitor p xs other = absurd (false≢true (sym other))
told_other kinds.Pocket kinds.Pocket p xs other = absurd (false≢true (sym other))
told_other kinds.Path kinds.Path p xs other = absurd (false≢true (sym other))
told_other kinds.Recipe kinds.Recipe p xs other = absurd (false≢true (sym other))
told_other _ _ p xs other = refl

-- how many items of a numbered kind a plan that can be spelled has at most
abbrev pub room_for : Kind → ℕ
room_for kinds.Path = 2 ^ 31
room_for _ = 2 ^ 32

-- the items can be told, and are not too many
abbrev pub IsToldList : (k : Kind) → List (Item k) → Type 0
IsToldList k xs = All (IsItem k) xs × (is_numbered k ≡ true → length xs < room_for k)

-- the items of each kind of a plan that can be spelled are such a list
formed_told : (p : PlanParts) → IsWellFormed p → (k : Kind) → IsPart k → IsToldList k (told_items p k)
formed_told p w kinds.Plan part = absurd (omega (arith, part.0))
formed_told p w kinds.Path part = (w.paths.each, λ _. w.paths.few)
formed_told p w k part = (items_fit newest_format p w (inl refl) k, items_few newest_format p w k)

-- a plan can be spelled where the items of each kind are such a list
told_formed : (p : PlanParts) → ((k : Kind) → IsPart k → IsToldList k (told_items p k)) → IsWellFormed p
told_formed p each = record {
  names = list kinds.Node (omega arith, omega arith) refl;
  links = list kinds.Link (omega arith, omega arith) refl;
  forced = (each kinds.Must (omega arith, omega arith)).0;
  barred = (each kinds.Not (omega arith, omega arith)).0;
  monitors = (each kinds.Monitor (omega arith, omega arith)).0;
  pockets = list kinds.Pocket (omega arith, omega arith) refl;
  paths = list kinds.Path (omega arith, omega arith) refl;
  recipes = list kinds.Recipe (omega arith, omega arith) refl;
}
  where
    list : (k : Kind) → IsPart k → is_numbered k ≡ true → IsListOf (IsItem k) (room_for k) (told_items p k)
    list k part numbered = record { each = (each k part).0; few = (each k part).1 numbered }

-- a plan that can be spelled is so with another such list of one kind
pub formed_with : (k : Kind) (p : PlanParts) (xs : List (Item k)) → IsPart k → IsWellFormed p → IsToldList k xs → IsWellFormed (with_told k p xs)
formed_with k p xs part w is = told_formed (with_told k p xs) (λ j other. elim (cases_Bool (place k == place j)) [
  | inl b ↦ subst (λ i. IsToldList i (told_items (with_told k p xs) i)) (same_place k j (eqb-true _ _ b)) (subst (IsToldList k) (sym (told_own k p xs part)) is)
  | inr b ↦ subst (IsToldList j) (sym (told_other k j p xs b)) (formed_told p w j other)
])

module _ {T : Type 0} (k : Kind) (row : Row) (answer : Result T PlanFault) where
  -- where there was room, there are not too many items after one was added
  few_after : (n : ℕ) (old new : List (Item k)) → length old + 1 < n → OnOk answer (AddsItem k row old new) → OnOk answer (length new < n)
  few_after n old new room = by answer
    where
      by : (a : Result T PlanFault) → OnOk a (AddsItem k row old new) → OnOk a (length new < n)
      by (Ok x) adds = omega (arith, ap length adds.more, length-append old (adds.item ∷ []), room)
      by (Err f) adds = tt

  -- the plan can be spelled after an item was added or refused
  pub formed_after : IsPart k → (p : PlanParts) (xs : List (Item k)) → IsWellFormed p → OnOk answer (AddsItem k row (told_items p k) xs) → OnOk answer (length xs < room_for k) → OnErr answer (xs ≡ told_items p k) → IsWellFormed (with_told k p xs)
  formed_after part p xs w = by answer
    where
      by : (a : Result T PlanFault) → OnOk a (AddsItem k row (told_items p k) xs) → OnOk a (length xs < room_for k) → OnErr a (xs ≡ told_items p k) → IsWellFormed (with_told k p xs)
      by (Ok x) adds few kept = formed_with k p xs part w (subst (All (IsItem k)) (sym adds.more) (All-push (IsItem k) (told_items p k) adds.item (formed_told p w k part).0 adds.fits), λ _. few)
      by (Err f) adds few kept = formed_with k p xs part w (subst (IsToldList k) (sym kept) (formed_told p w k part))

  -- so where there was room for one item more
  pub formed_more : IsPart k → room_for k ≡ 2 ^ 32 → (p : PlanParts) (xs : List (Item k)) → IsWellFormed p → length (told_items p k) + 1 < 2 ^ 32
      → OnOk answer (AddsItem k row (told_items p k) xs) → OnErr answer (xs ≡ told_items p k) → IsWellFormed (with_told k p xs)
  formed_more part plain p xs w room adds = formed_after part p xs w adds (few_after (room_for k) (told_items p k) xs (omega (arith, plain, room)) adds)

  -- the plan takes the row of the item that was added
  pub takes_after : IsPart k → (p : PlanParts) (xs : List (Item k)) → OnOk answer (AddsItem k row (told_items p k) xs) → OnOk answer (TakesItem k row p (with_told k p xs))
  takes_after part p xs = by answer
    where
      by : (a : Result T PlanFault) → OnOk a (AddsItem k row (told_items p k) xs) → OnOk a (TakesItem k row p (with_told k p xs))
      by (Ok x) adds = takes_item k row p (with_told k p xs) (subst (AddsItem k row (told_items p k)) (sym (told_own k p xs part)) adds) (λ j other. told_other k j p xs other)
      by (Err f) adds = tt

  -- the node that was added is the item that the row tells
  pub node_after : (item : ℕ → Item k) (old new : List (Item k)) → is_numbered k ≡ false → ((v : ℕ) → Spells IsSmall decimal (field row 1) (Some v) → Tells k row (item v))
      → OnOk answer ((v : ℕ) × Spells IsSmall decimal (field row 1) (Some v) × (new ≡ old ++ item v ∷ [])) → OnOk answer (AddsItem k row old new)
  node_after item old new bare tells = by answer
    where
      by : (a : Result T PlanFault) → OnOk a ((v : ℕ) × Spells IsSmall decimal (field row 1) (Some v) × (new ≡ old ++ item v ∷ [])) → OnOk a (AddsItem k row old new)
      by (Ok x) adds = adds_item k row (item adds.0) old new (tells adds.0 adds.1) (λ numbered. absurd (false≢true (sym bare ∙ numbered))) adds.2
      by (Err f) adds = tt

-- What one more item does to a list in which each item stands once, and to the places in it.
use Rattle.std.proofs.Common.{◌≡◌, ◌+◌, ◌<◌, Bool, true, false, not, ◌||◌, List, [], ◌∷◌, ◌++◌, length, map, filter, refl, sym, ap, ap₂, ◌∙◌, inl, inr, arith, All}
use Rattle.std.specs.Bool.{Decides}
use Rattle.std.specs.List.{list_any}
use Rattle.std.proofs.lemmas.Bool.{cases_Bool, both_ways, or_left, or_right, or_from, false_from_ne_true}
use Rattle.std.proofs.lemmas.List.{append-nil, map_push, length_push}
use Rattle.std.proofs.lemmas.List.Elements.{filter-append, All-push}
use Rattle.std.proofs.lemmas.List.Folds.{list_any-append}
use Rattle.indexmap.specs.IndexSet.{insert_key}
use Rattle.topology.specs.Distinct.{distinct}

-- the test tells which items are equal
abbrev pub IsEquality : {A : Type 0} → (A → A → Bool) → Type 0
IsEquality {A} eq = (x y : A) → Decides (eq x y) (x ≡ y)

-- an item is equal to itself
pub eq_itself : {A : Type 0} (eq : A → A → Bool) → IsEquality eq → (x : A) → eq x x ≡ true
eq_itself eq same x = (same x x).1 refl

-- an item that is new goes last, and one that stands already changes nothing
pub insert_new : {A : Type 0} (eq : A → A → Bool) (ks : List A) (k : A) → list_any (eq k) ks ≡ false → insert_key eq ks k ≡ ks ++ k ∷ []
insert_new eq ks k new = rw new refl

pub insert_known : {A : Type 0} (eq : A → A → Bool) (ks : List A) (k : A) → list_any (eq k) ks ≡ true → insert_key eq ks k ≡ ks
insert_known eq ks k known = rw known refl

-- the item stands in the list after it is inserted
pub any_inserted : {A : Type 0} (eq : A → A → Bool) → IsEquality eq → (ks : List A) (k : A) → list_any (eq k) (insert_key eq ks k) ≡ true
any_inserted eq same ks k = elim (cases_Bool (list_any (eq k) ks)) [
  | inl known ↦ rw (insert_known eq ks k known) known
  | inr new ↦ rw (insert_new eq ks k new, list_any-append (eq k) ks (k ∷ [])) (or_right _ _ (or_left _ _ (eq_itself eq same k)))
]

-- and what stood in it still does
pub any_kept : {A : Type 0} (eq : A → A → Bool) (test : A → Bool) (ks : List A) (k : A) → list_any test ks ≡ true → list_any test (insert_key eq ks k) ≡ true
any_kept eq test ks k there = elim (cases_Bool (list_any (eq k) ks)) [
  | inl known ↦ rw (insert_known eq ks k known) there
  | inr new ↦ rw (insert_new eq ks k new, list_any-append test ks (k ∷ [])) (or_left _ _ there)
]

-- what holds of each item and of the new one
pub All-inserted : {A : Type 0} (eq : A → A → Bool) (P : A → Type 0) (ks : List A) (k : A) → All P ks → P k → All P (insert_key eq ks k)
All-inserted eq P ks k all here = elim (cases_Bool (list_any (eq k) ks)) [
  | inl known ↦ rw (insert_known eq ks k known) all
  | inr new ↦ rw (insert_new eq ks k new) (All-push P ks k all here)
]

-- the list grows by one at most
pub length-inserted : {A : Type 0} (eq : A → A → Bool) (ks : List A) (k : A) → (length ks < length (insert_key eq ks k) + 1) × (length (insert_key eq ks k) < length ks + 2)
length-inserted eq ks k = elim (cases_Bool (list_any (eq k) ks)) [
  | inl known ↦ rw (insert_known eq ks k known) (omega arith, omega arith)
  | inr new ↦ rw (insert_new eq ks k new, length_push ks k) (omega arith, omega arith)
]

-- an insertion, seen through a map under which equal items stay equal
pub map-inserted : {A B : Type 0} (f : A → B) (eq : A → A → Bool) (eq' : B → B → Bool) → ((x y : A) → eq x y ≡ eq' (f x) (f y))
    → (ks : List A) (k : A) → map f (insert_key eq ks k) ≡ insert_key eq' (map f ks) (f k)
map-inserted {A = A} f eq eq' alike ks k = elim (cases_Bool (list_any (eq k) ks)) [
  | inl known ↦ rw (insert_known eq ks k known, insert_known eq' (map f ks) (f k) (sym (any_alike ks) ∙ known)) refl
  | inr new ↦ rw (insert_new eq ks k new, insert_new eq' (map f ks) (f k) (sym (any_alike ks) ∙ new)) (map_push f ks k)
]
  where
    any_alike : (xs : List A) → list_any (eq k) xs ≡ list_any (eq' (f k)) (map f xs)
    any_alike [] = refl
    any_alike (x ∷ xs) = ap₂ ◌||◌ (alike k x) (any_alike xs)

-- ---- each item once

-- leaving out the items equal to x takes no other item away
any_others : {A : Type 0} (eq : A → A → Bool) → IsEquality eq → (x y : A) (ks : List A) → eq y x ≡ false → list_any (eq y) (filter (λ z. not (eq x z)) ks) ≡ list_any (eq y) ks
any_others eq same x y [] differ = refl
any_others eq same x y (z ∷ zs) differ = elim (cases_Bool (eq x z)) [
  | inl e ↦ (
      let gone : eq y z ≡ false = ap (eq y) (sym ((same x z).0 e)) ∙ differ in
      rw (e, gone) (any_others eq same x y zs differ))
  | inr e ↦ rw e (ap (λ b. eq y z || b) (any_others eq same x y zs differ))
]

-- an item stands among the distinct ones exactly where it stands in the list
pub any-distinct : {A : Type 0} (eq : A → A → Bool) → IsEquality eq → (y : A) (xs : List A) → list_any (eq y) (distinct eq xs) ≡ list_any (eq y) xs
unfolding distinct
any-distinct eq same y [] = refl
any-distinct eq same y (x ∷ xs) = elim (cases_Bool (eq y x)) [
  | inl e ↦ rw e refl
  | inr e ↦ ap (λ b. eq y x || b) (any_others eq same x y (distinct eq xs) e ∙ any-distinct eq same y xs)
]

-- one more item at the end of a list is inserted
pub distinct-push : {A : Type 0} (eq : A → A → Bool) → IsEquality eq → (xs : List A) (y : A) → distinct eq (xs ++ y ∷ []) ≡ insert_key eq (distinct eq xs) y
unfolding distinct
distinct-push eq same [] y = refl
distinct-push {A} eq same (x ∷ xs) y = ap (λ ks. x ∷ filter others ks) (distinct-push eq same xs y) ∙ elim (cases_Bool (eq y x)) [
  | inl e ↦ (
      let known : list_any (eq y) (x ∷ filter others (distinct eq xs)) ≡ true = or_left _ _ e in
      let out : eq x y ≡ true = (same x y).1 (sym ((same y x).0 e)) in
      rw (insert_known eq (x ∷ filter others (distinct eq xs)) y known) (ap (λ ks. x ∷ ks) (left_out out)))
  | inr e ↦ (
      let rest : list_any (eq y) (filter others (distinct eq xs)) ≡ list_any (eq y) (distinct eq xs) = any_others eq same x y (distinct eq xs) e in
      let stays : eq x y ≡ false = false_from_ne_true (eq x y) (λ t. both_ways (eq y x) e ((same y x).1 (sym ((same x y).0 t)))) in
      elim (cases_Bool (list_any (eq y) (distinct eq xs))) [
        | inl known ↦ rw (insert_known eq (distinct eq xs) y known, insert_known eq (x ∷ filter others (distinct eq xs)) y (or_right _ _ (rest ∙ known))) refl
        | inr new ↦ rw (insert_new eq (distinct eq xs) y new, insert_new eq (x ∷ filter others (distinct eq xs)) y (or_from _ _ e (rest ∙ new)), filter-append others (distinct eq xs) (y ∷ []), stays) refl
      ])
]
  where
    others : A → Bool
    others z = not (eq x z)

    left_out : eq x y ≡ true → filter others (insert_key eq (distinct eq xs) y) ≡ filter others (distinct eq xs)
    left_out out = elim (cases_Bool (list_any (eq y) (distinct eq xs))) [
      | inl known ↦ rw (insert_known eq (distinct eq xs) y known) refl
      | inr new ↦ rw (insert_new eq (distinct eq xs) y new, filter-append others (distinct eq xs) (y ∷ []), out) (append-nil (filter others (distinct eq xs)))
    ]

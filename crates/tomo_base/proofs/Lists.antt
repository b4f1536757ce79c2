-- Lists of any items: pairs of items, items at places, and one item more.
use Rattle.std.proofs.Common.{◌≡◌, ℕ, zero, suc, ◌<◌, ◌≤◌, ◌⊎◌, true, false, List, [], ◌∷◌, ◌++◌, length, get_or, take, drop, insert, slice_get, Some, None, All, AllPairs, refl, sym, ap, inl, inr, arith, take_at, Bool, ◌==◌, Option}
use Rattle.std.specs.List.{filter}
use Rattle.std.proofs.lemmas.Bool.{cases_Bool, both_ways, eq-eqb, cases_eq}
use Rattle.std.proofs.lemmas.List.Elements.{All-append, All-take, All-drop, All-cons}
use Rattle.std.proofs.lemmas.List.Kept.{AllPairs-cons}
use Rattle.std.proofs.lemmas.List.{get_or_append_left, get_or_push}
use Rattle.tomo_base.specs.Search.{entry_at}
use Rattle.std.specs.Option.{unwrap_or}

-- the first with each later one
pub AllPairs-head : {X : Type 0} (R : X → X → Type 0) (x : X) (xs : List X) → AllPairs R (x ∷ xs) → All (R x) xs
AllPairs-head R x xs asc k d l = asc 0 (suc k) d (omega arith) (omega arith)

-- the later ones with each other
pub AllPairs-tail : {X : Type 0} (R : X → X → Type 0) (x : X) (xs : List X) → AllPairs R (x ∷ xs) → AllPairs R xs
AllPairs-tail R x xs asc i j d l m = asc (suc i) (suc j) d (omega arith) (omega arith)

-- a new item, after all before it and before all after it
pub AllPairs-insert : {X : Type 0} (R : X → X → Type 0) (xs : List X) (p : ℕ) (y : X) → p ≤ length xs → AllPairs R xs → ((k : ℕ) (d : X) → k < p → R (get_or xs k d) y) → ((k : ℕ) (d : X) → p ≤ k → k < length xs → R y (get_or xs k d)) → AllPairs R (insert xs p y)
AllPairs-insert R [] zero y le asc below above = AllPairs-cons R y [] (λ k d l. absurd (omega arith)) asc
AllPairs-insert R [] (suc p) y le asc below above = absurd (omega arith)
AllPairs-insert R (x ∷ xs) zero y le asc below above = AllPairs-cons R y (x ∷ xs) (λ k d l. above k d (omega arith) l) asc
AllPairs-insert R (x ∷ xs) (suc p) y le asc below above =
    let heads : All (R x) xs = AllPairs-head R x xs asc in
    AllPairs-cons R x (insert xs p y)
    (All-append (R x) (take p xs) (y ∷ drop p xs) (All-take (R x) p xs heads) (All-cons (R x) y (drop p xs) (below 0 x (omega arith)) (All-drop (R x) p xs heads)))
    (AllPairs-insert R xs p y (omega arith) (AllPairs-tail R x xs asc) (λ k d l. below (suc k) d (omega arith)) (λ k d m l. above (suc k) d (omega arith) (omega arith)))

-- a place in the first of two lists
pub slice_get-append : {X : Type 0} (xs ys : List X) (i : ℕ) (x : X) → slice_get xs i ≡ Some x → slice_get (xs ++ ys) i ≡ Some x
slice_get-append [] ys i x h = absurd (none x h)
  where
    none : {X : Type 0} (x : X) → None ≡ Some x → ⊥
    none x e = cc
slice_get-append (z ∷ xs) ys zero x h = h
slice_get-append (z ∷ xs) ys (suc i) x h = slice_get-append xs ys i x h

-- the place of the item that was pushed
pub slice_get_last : {X : Type 0} (xs : List X) (x : X) → slice_get (xs ++ x ∷ []) (length xs) ≡ Some x
slice_get_last [] x = refl
slice_get_last (z ∷ xs) x = slice_get_last xs x

-- a place in a list with an item pushed
pub slice_get_push_cases : {X : Type 0} (xs : List X) (x y : X) (i : ℕ) → slice_get (xs ++ x ∷ []) i ≡ Some y → (slice_get xs i ≡ Some y) ⊎ ((i ≡ length xs) × (x ≡ y))
slice_get_push_cases [] x y zero h = inr (refl, cc h)
slice_get_push_cases [] x y (suc i) h = absurd (none y h)
  where
    none : {X : Type 0} (x : X) → None ≡ Some x → ⊥
    none x e = cc
slice_get_push_cases (z ∷ xs) x y zero h = inl h
slice_get_push_cases (z ∷ xs) x y (suc i) h = elim (slice_get_push_cases xs x y i h) [ inl e ↦ inl e | inr e ↦ inr (ap suc e.0, e.1) ]

-- the items of a `Vec` after its slice was lent
pub lent_back : {X : Type 0} (n : ℕ) (new old : List X) → length new ≡ n → take n (new ++ drop (length new) old) ≡ new
lent_back n new old same = take_at new (drop (length new) old) n same

-- the number at a place of a list with one more, before the last place
pub at_before : (xs : List ℕ) (x k : ℕ) → k < length xs → entry_at (xs ++ x ∷ []) k ≡ entry_at xs k
at_before xs x k l = get_or_append_left xs (x ∷ []) 0 k l

-- and at the last
pub at_last : (xs : List ℕ) (x k : ℕ) → k ≡ length xs → entry_at (xs ++ x ∷ []) k ≡ x
at_last xs x k same = get_or_push xs x 0 k (sym same)

-- two tests that imply each other agree
pub same_test : (a b : Bool) → (a ≡ true → b ≡ true) → (b ≡ true → a ≡ true) → a ≡ b
same_test true b h k = sym (h refl)
same_test false true h k = k refl
same_test false false h k = refl

-- fewer are kept where one is left out
pub filter_le : {X : Type 0} (p : X → Bool) (xs : List X) → length (filter p xs) ≤ length xs
filter_le p [] = omega arith
filter_le p (x ∷ xs) = elim (cases_Bool (p x)) [ inl e ↦ rw e (omega (arith, filter_le p xs)) | inr e ↦ rw e (omega (arith, filter_le p xs)) ]

-- what is not empty has a first node
pub not_empty : (xs : List ℕ) → (length xs == 0) ≡ false → 0 < length xs
not_empty xs e = elim (cases_eq (length xs) 0) [ inl same ↦ absurd (both_ways _ e (eq-eqb (length xs) 0 same)) | inr ne ↦ omega (arith, ne) ]

-- two options that hold items are equal only where the items are
pub some_inj : {A : Type 0} {x y : A} → Some x ≡ Some y → x ≡ y
some_inj {A} {x} e = ap (λ (o : Option A). unwrap_or o x) e

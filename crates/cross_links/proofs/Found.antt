-- What searches over lists of nodes and over lists of paths find.
use Rattle.std.proofs.Common.{ℕ, zero, suc, ◌+◌, ◌<◌, ◌≡◌, true, false, ◌||◌, ◌==◌, List, [], ◌∷◌, ◌++◌, length, get_or, take, drop, Option, Some, None, refl, sym, ap, ◌∙◌, inl, inr, arith}
use Rattle.std.specs.List.{list_any, AllWithin, HoldsAt}
use Rattle.std.specs.Option.{MatchOption}
use Rattle.std.proofs.lemmas.Bool.{cases_eq, both_ways, eqb-true, eqb-false, false_from_ne_true}
use Rattle.std.proofs.lemmas.List.Folds.{Any-from_list_any}
use Rattle.std.proofs.lemmas.List.{get_or_default}
use Rattle.std.proofs.lemmas.Option.{none-some}
use Rattle.tomo_base.specs.Sets.{has}
use Rattle.tomo_base.proofs.Ascending.{place_in}

-- a node stands in a list where some node of it passes the test
pub has_any : (xs : List ℕ) (v : ℕ) → has xs v ≡ list_any (λ y. y == v) xs
unfolding has
has_any [] v = refl
has_any (x ∷ xs) v = ap (λ b. (x == v) || b) (has_any xs v)

-- one path more without the node
pub none_more : (ps : List (List ℕ)) (v i : ℕ) → ((k : ℕ) → k < i → has (get_or ps k []) v ≡ false) → has (get_or ps i []) v ≡ false → (k : ℕ) → k < i + 1 → has (get_or ps k []) v ≡ false
none_more ps v i before here k l = elim (cases_eq k i) [ inl same ↦ ap (λ z. has (get_or ps z []) v) same ∙ here | inr ne ↦ before k (omega (arith, l, ne)) ]

-- where some path has the node, not all are without it
pub some_path : (ps : List (List ℕ)) (v : ℕ) → list_any (λ p. has p v) ps ≡ true → ((k : ℕ) → k < length ps → has (get_or ps k []) v ≡ false) → ⊥
some_path ps v h none =
    let at = Any-from_list_any (λ p. has p v) ps h in
    both_ways (has at.1 v) (ap (λ p. has p v) (sym at.3 ∙ get_or_default ps at.0 at.1 [] at.2) ∙ none at.0 at.2) at.4

-- a list around one of its places
pub around : (xs : List ℕ) (i d : ℕ) → i < length xs → xs ≡ take i xs ++ get_or xs i d ∷ drop (i + 1) xs
around [] i d l = absurd (omega (arith, l))
around (x ∷ xs) zero d l = refl
around (x ∷ xs) (suc i) d l =
    let next : suc i + 1 ≡ suc (i + 1) = omega arith in
    rw next (ap (λ r. x ∷ r) (around xs i d (omega (arith, l))))

-- the search answers the first place at which the node stands, or none
abbrev pub FindsFirst : List ℕ → ℕ → Option ℕ → Type 0
FindsFirst xs v r = MatchOption r (AllWithin (λ y. (y == v) ≡ false) xs 0 (length xs)) (λ i. (i < length xs) × HoldsAt (λ y. (y == v) ≡ true) xs i × AllWithin (λ y. (y == v) ≡ false) xs 0 i)

-- where the search found a place, the node stands there
pub found_at : (xs : List ℕ) (v i : ℕ) (r : Option ℕ) → r ≡ Some i → FindsFirst xs v r → xs ≡ take i xs ++ v ∷ drop (i + 1) xs
found_at xs v i None is found = absurd (none-some i is)
found_at xs v i (Some k) is found =
    let same : k ≡ i = cc is in
    rw (sym same) (around xs k 0 found.0 ∙ ap (λ y. take k xs ++ y ∷ drop (k + 1) xs) (eqb-true (get_or xs k 0) v (found.1 0)))

-- where it found none, the node does not stand in the list
pub not_found : (xs : List ℕ) (v : ℕ) (r : Option ℕ) → r ≡ None → FindsFirst xs v r → has xs v ≡ false
not_found xs v (Some k) is found = absurd (none-some k (sym is))
not_found xs v None is found = false_from_ne_true (has xs v) (λ h.
    let at = place_in xs v h in
    eqb-false (get_or xs at.0 0) v (found at.0 0 (omega arith) at.1) at.2)

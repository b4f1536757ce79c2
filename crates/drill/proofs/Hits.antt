-- A link joins one pair at most: so links that are fewer than the pairs leave one free.
use Rattle.std.proofs.Common.{◌≡◌, ◌⊎◌, ℕ, zero, suc, ◌+◌, ◌<◌, ◌≤◌, Bool, false, ◌||◌, List, [], ◌∷◌, ◌++◌, length, filter, find, drop, take, refl, ap, subst, inl, inr, arith, Option, Some, None, length-append, All}
use Rattle.std.proofs.lemmas.Bool.{cases_Bool, cases_lt, lt-ltb, le-ltb}
use Rattle.std.proofs.lemmas.List.{append-nil, take-append-drop}
use Rattle.std.proofs.lemmas.List.Elements.{filter-append, All-head, All-tail}
use Rattle.tomo_base.specs.declared.graph.Link.{Link}
use Rattle.tomo_base.specs.Network.{joins, any_joins, AreLinks}
use Rattle.tomo_base.proofs.Links.{joins_gives}
use Rattle.drill.specs.Generated.{pair, IsPair, pairs_of, pairs_below, pairs, pair_count, is_free, first_free}
use Rattle.drill.proofs.PairLists.{length-pairs}

-- the link joins the pair
abbrev hits : Link → Link → Bool
hits l p = joins l p.a p.b

-- so many of the pairs are joined by the link
abbrev hit_count : Link → List Link → ℕ
hit_count l ps = length (filter (hits l) ps)

-- a link joins none of the pairs of a node, or one: the node is its lower end
hits_in_row : (l : Link) (a b : ℕ) → l.a < l.b → (hit_count l (pairs_of a b) ≡ 0) ⊎ ((hit_count l (pairs_of a b) ≤ 1) × (l.a ≡ a) × (l.b < b))
unfolding pairs_of
hits_in_row l a zero lower = inl refl
hits_in_row l a (suc b) lower = elim (cases_lt a b) [
  | inr le ↦ rw (le-ltb a b le, append-nil (pairs_of a b)) (kept (hits_in_row l a b lower))
  | inl lt ↦ rw (lt-ltb a b lt, filter-append (hits l) (pairs_of a b) (pair a b ∷ [])) (elim (cases_Bool (hits l (pair a b))) [
    | inr e ↦ rw (e, append-nil (filter (hits l) (pairs_of a b))) (kept (hits_in_row l a b lower))
    | inl e ↦ rw (e, length-append (filter (hits l) (pairs_of a b)) (pair a b ∷ [])) (one lt (joins_gives l a b e) (hits_in_row l a b lower))
  ])
]
  where
    kept : {x : ℕ} → (x ≡ 0) ⊎ ((x ≤ 1) × (l.a ≡ a) × (l.b < b)) → (x ≡ 0) ⊎ ((x ≤ 1) × (l.a ≡ a) × (l.b < suc b))
    kept (inl e) = inl e
    kept (inr (few, at, below)) = inr (few, at, omega (arith, below))

    one : {x : ℕ} → a < b → ((l.a ≡ a) × (l.b ≡ b)) ⊎ ((l.a ≡ b) × (l.b ≡ a)) → (x ≡ 0) ⊎ ((x ≤ 1) × (l.a ≡ a) × (l.b < b)) → (x + 1 ≡ 0) ⊎ ((x + 1 ≤ 1) × (l.a ≡ a) × (l.b < suc b))
    one lt (inl ends) (inl none) = inr (omega (arith, none), ends.0, omega (arith, ends.1))
    one lt (inl ends) (inr (few, at, below)) = absurd (omega (arith, below, ends.1))
    one lt (inr ends) other = absurd (omega (arith, lower, lt, ends.0, ends.1))

-- so of the pairs whose lower node is below k
hits_below : (l : Link) (n k : ℕ) → l.a < l.b → (hit_count l (pairs_below n k) ≡ 0) ⊎ ((hit_count l (pairs_below n k) ≤ 1) × (l.a < k))
unfolding pairs_below
hits_below l n zero lower = inl refl
hits_below l n (suc k) lower = rw (filter-append (hits l) (pairs_below n k) (pairs_of k n), length-append (filter (hits l) (pairs_below n k)) (filter (hits l) (pairs_of k n)))
    (both (hits_below l n k lower) (hits_in_row l k n lower))
  where
    both : {x y : ℕ} → (x ≡ 0) ⊎ ((x ≤ 1) × (l.a < k)) → (y ≡ 0) ⊎ ((y ≤ 1) × (l.a ≡ k) × (l.b < n)) → (x + y ≡ 0) ⊎ ((x + y ≤ 1) × (l.a < suc k))
    both (inl none) (inl bare) = inl (omega (arith, none, bare))
    both (inr (few, below)) (inl bare) = inr (omega (arith, few, bare), omega (arith, below))
    both (inl none) (inr (few, at, below)) = inr (omega (arith, none, few), omega (arith, at))
    both (inr (some, under)) (inr (few, at, below)) = absurd (omega (arith, under, at))

-- a link joins one pair at most
hits_few : (l : Link) (n : ℕ) → l.a < l.b → hit_count l (pairs n) ≤ 1
hits_few l n lower = few (hits_below l n n lower)
  where
    few : {x : ℕ} → (x ≡ 0) ⊎ ((x ≤ 1) × (l.a < n)) → x ≤ 1
    few (inl none) = omega (arith, none)
    few (inr (one, below)) = one

-- what passes one of two tests
either_few : (p q : Link → Bool) (xs : List Link) → length (filter (λ x. p x || q x) xs) ≤ length (filter p xs) + length (filter q xs)
either_few p q [] = omega arith
either_few p q (x ∷ xs) = elim (cases_Bool (p x)) [
  | inl e ↦ elim (cases_Bool (q x)) [ inl f ↦ rw (e, f) (omega (arith, either_few p q xs)) | inr f ↦ rw (e, f) (omega (arith, either_few p q xs)) ]
  | inr e ↦ elim (cases_Bool (q x)) [ inl f ↦ rw (e, f) (omega (arith, either_few p q xs)) | inr f ↦ rw (e, f) (omega (arith, either_few p q xs)) ]
]

-- the links join no more pairs than they are
joined_few : (n m : ℕ) (ls : List Link) → AreLinks m ls → length (filter (λ p. any_joins ls p.a p.b) (pairs n)) ≤ length ls
unfolding any_joins
joined_few n m [] are = omega (arith, none (pairs n))
  where
    none : (ps : List Link) → length (filter (λ p. false) ps) ≡ 0
    none [] = refl
    none (p ∷ ps) = none ps
joined_few n m (l ∷ ls) are = omega (arith, either_few (hits l) (λ p. any_joins ls p.a p.b) (pairs n), hits_few l n are.0, joined_few n m ls are.3)

-- where no pair is free, all are joined
all_joined : (links ps : List Link) → find (is_free links) ps ≡ None → length (filter (λ p. any_joins links p.a p.b) ps) ≡ length ps
all_joined links [] none = refl
all_joined links (p ∷ ps) none = elim (cases_Bool (any_joins links p.a p.b)) [
  | inl e ↦ rw e (omega (arith, all_joined links ps (rw e at none)))
  | inr e ↦ absurd (some (rw e at none))
]
  where
    some : Some p ≡ None → ⊥
    some e = cc

-- what is found is one of the items, and free
pub found_free : (links ps : List Link) (p : Link) (n : ℕ) → All (IsPair n) ps → find (is_free links) ps ≡ Some p → IsPair n p × (any_joins links p.a p.b ≡ false)
found_free links [] p n are found = absurd (none found)
  where
    none : None ≡ Some p → ⊥
    none e = cc
found_free links (q ∷ ps) p n are found = elim (cases_Bool (any_joins links q.a q.b)) [
  | inl e ↦ found_free links ps p n (All-tail (IsPair n) q ps are) (rw e at found)
  | inr e ↦ (
      let same : q ≡ p = is (rw e at found) in
      subst (λ x. IsPair n x × (any_joins links x.a x.b ≡ false)) same (All-head (IsPair n) q ps are, e))
]
  where
    is : Some q ≡ Some p → q ≡ p
    is e = cc

-- a list from a place on, and then the part before it, has as many items that pass
turned_count : (q : Link → Bool) (ps : List Link) (place : ℕ) → length (filter q (drop place ps ++ take place ps)) ≡ length (filter q ps)
turned_count q ps place =
    let front = take place ps in
    let rest = drop place ps in
    let turned : length (filter q (rest ++ front)) ≡ length (filter q rest) + length (filter q front) = rw (filter-append q rest front) (length-append (filter q rest) (filter q front)) in
    let straight : length (filter q (front ++ rest)) ≡ length (filter q front) + length (filter q rest) = rw (filter-append q front rest) (length-append (filter q front) (filter q rest)) in
    let whole : length (filter q (front ++ rest)) ≡ length (filter q ps) = ap (λ xs. length (filter q xs)) (take-append-drop place ps) in
    omega (arith, turned, straight, whole)

-- where there are fewer links than pairs, some pair is free, wherever the search starts
pub some_free : (n m : ℕ) (links : List Link) (place : ℕ) → AreLinks m links → length links < pair_count n → (p : Link) × (first_free n links place ≡ Some p)
some_free n m links place are few = by_answer (first_free n links place) refl
  where
    turned_length : length (drop place (pairs n) ++ take place (pairs n)) ≡ length (pairs n)
    turned_length =
        let whole : length (take place (pairs n) ++ drop place (pairs n)) ≡ length (pairs n) = ap (λ xs. length xs) (take-append-drop place (pairs n)) in
        omega (arith, whole, length-append (drop place (pairs n)) (take place (pairs n)), length-append (take place (pairs n)) (drop place (pairs n)))

    by_answer : (o : Option Link) → first_free n links place ≡ o → (p : Link) × (first_free n links place ≡ Some p)
    by_answer (Some p) is = (p, is)
    by_answer None is =
        let joined = all_joined links (drop place (pairs n) ++ take place (pairs n)) is in
        absurd (omega (arith, joined, turned_count (λ p. any_joins links p.a p.b) (pairs n) place, joined_few n m links are, turned_length, length-pairs n, few))

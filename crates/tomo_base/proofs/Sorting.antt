-- A sort of vectors sorts the lists that they hold.
use Rattle.std.proofs.Common.{◌≡◌, ℕ, ◌+◌, ◌<◌, ◌≤◌, eqb, Bool, List, [], ◌∷◌, length, map, refl, ap, inl, inr, arith, Vec, Contains}
use lib.Pointwise.{pointwise, bytes_decides}
use Rattle.std.specs.Global.{Global}
use Rattle.std.specs.declared.cmp.Ordering.{Ordering}
use Rattle.std.specs.Ordering.{nat_cmp}
use Rattle.std.specs.Cmp.Lexicographic.{lists_ties, nat_list_cmp_total, nat_list_eq_equiv}
use Rattle.std.specs.Cmp.{unsigned_ties}
use Rattle.std.specs.List.{dedup, sum_by}
use Rattle.std.specs.List.Sorted.{IsSorted, IsStrictlySortedBy, IsPermutation}
use Rattle.std.proofs.lemmas.Bool.{cases_Bool}
use Rattle.std.proofs.lemmas.List.{get_or-map, length-map}
use Rattle.std.proofs.lemmas.List.Recursion.{is_sum_by}
use Rattle.std.proofs.lemmas.List.Sorted.{sum_by-IsPermutation}
use Rattle.std.proofs.lemmas.List.Kept.{IsStrictlySortedBy-dedup, Contains-dedup}
use Rattle.tomo_base.specs.SetLists.{set_cmp, lists_of}

-- what is kept of elements that are compared by a value is what is kept of the values
dedup_more : {X Y : Type 0} (f : X → Y) (E : Y → Y → Bool) (x : X) (xs : List X) → map f (dedup (λ a b. E (f a) (f b)) (x ∷ xs)) ≡ dedup E (f x ∷ map f xs)
dedup_more f E x [] = refl
dedup_more f E x (y ∷ ys) = elim (cases_Bool (E (f y) (f x)))
    [ inl e ↦ rw e (dedup_more f E x ys) | inr e ↦ rw e (ap (λ t. f x ∷ t) (dedup_more f E y ys)) ]

-- leaving out repeats of vectors leaves out repeats of lists
pub dedup-map : {X Y : Type 0} (f : X → Y) (E : Y → Y → Bool) (xs : List X) → map f (dedup (λ a b. E (f a) (f b)) xs) ≡ dedup E (map f xs)
dedup-map f E [] = refl
dedup-map f E (x ∷ xs) = dedup_more f E x xs

-- elements in the order of a value have their values in order
pub sorted-map : {X Y : Type 0} (f : X → Y) (R : Y → Y → Ordering) (xs : List X) → IsSorted (λ a b. R (f a) (f b)) xs → IsSorted R (map f xs)
sorted-map f R [] sorted k d low lt = absurd (omega (arith, lt))
sorted-map f R (x ∷ xs) sorted k d low lt =
    let below : k + 1 < length (x ∷ xs) = omega (arith, lt, length-map (x ∷ xs) f) in
    rw (get_or-map f (x ∷ xs) (k + 1) x d below, get_or-map f (x ∷ xs) k x d (omega (arith, below))) (sorted k x low below)

-- sorted, and each once
pub rises : (vs : List (Vec ℕ Global)) → IsSorted set_cmp (lists_of vs) → IsStrictlySortedBy set_cmp (dedup (pointwise eqb) (lists_of vs))
rises vs sorted = IsStrictlySortedBy-dedup nat_list_cmp_total (lists_ties nat_cmp unsigned_ties) (lists_of vs) sorted

-- and none is lost
pub keeps : (ps : List (List ℕ)) (p : List ℕ) → Contains ps p → Contains (dedup (pointwise eqb) ps) p
keeps ps p h = Contains-dedup nat_list_eq_equiv (λ x y. (bytes_decides x y).0) ps p h

-- ---- a sum over the lists

-- the sum, one list after the other
abbrev total : (List ℕ → ℕ) → List (List ℕ) → ℕ
total w [] = 0
total w (p ∷ ps) = w p + total w ps

-- it gets no larger when equal lists are kept once
total-dedup : (w : List ℕ → ℕ) (E : List ℕ → List ℕ → Bool) (ps : List (List ℕ)) → total w (dedup E ps) ≤ total w ps
total-dedup w E [] = omega arith
total-dedup w E (p ∷ ps) = from p ps
  where
    from : (p : List ℕ) (ps : List (List ℕ)) → total w (dedup E (p ∷ ps)) ≤ total w (p ∷ ps)
    from p [] = omega arith
    from p (q ∷ ps) = elim (cases_Bool (E q p)) [
      | inl e ↦ rw e (omega (arith, from p ps))
      | inr e ↦ rw e (omega (arith, from q ps))
    ]

-- after a sort it is the same, so after both no larger
pub sum_by-sorted : (w : List ℕ → ℕ) (E : List ℕ → List ℕ → Bool) (ps qs : List (List ℕ)) → IsPermutation ps qs → sum_by w (dedup E qs) ≤ sum_by w ps
sum_by-sorted w E ps qs h =
    let sums : (xs : List (List ℕ)) → total w xs ≡ sum_by w xs = is_sum_by (total w) w refl (λ p xs. refl) in
    omega (arith, sum_by-IsPermutation w ps qs h, total-dedup w E qs, sums qs, sums (dedup E qs))

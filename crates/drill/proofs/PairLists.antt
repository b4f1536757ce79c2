-- The pairs of nodes: how their lists grow, how many there are, and that each is a pair.
use Rattle.std.proofs.Common.{◌≡◌, ℕ, zero, suc, ◌+◌, ◌-◌, ◌*◌, ◌/◌, ◌<◌, ◌≤◌, ◌^◌, [], ◌∷◌, ◌++◌, length, refl, ap, subst, inl, inr, arith, length-append, All}
use Rattle.std.proofs.lemmas.Bool.{cases_lt, lt-ltb, le-ltb}
use Rattle.std.proofs.lemmas.List.{append-nil, length_push}
use Rattle.std.proofs.lemmas.List.Elements.{All-append, All-push, All-nil}
use Rattle.drill.specs.Generated.{pair, IsPair, pairs_of, pairs_below, pairs, pair_count}
use Rattle.drill.specs.Limits.{drawn_node_limit}

-- a node has no pairs with the nodes up to itself
pub pairs_of_none : (a b : ℕ) → b ≤ a + 1 → pairs_of a b ≡ []
unfolding pairs_of
pairs_of_none a zero le = refl
pairs_of_none a (suc b) le = rw (pairs_of_none a b (omega (arith, le)), le-ltb a b (omega (arith, le))) refl

-- one pair more
pub pairs_of_more : (a b : ℕ) → a < b → pairs_of a (b + 1) ≡ pairs_of a b ++ pair a b ∷ []
unfolding pairs_of
pairs_of_more a b lt =
    let next : suc b ≡ b + 1 = omega arith in
    subst (λ k. pairs_of a k ≡ pairs_of a b ++ pair a b ∷ []) next (rw (lt-ltb a b lt) refl)

-- the pairs of one node more
pub pairs_below_more : (n a : ℕ) → pairs_below n (a + 1) ≡ pairs_below n a ++ pairs_of a n
unfolding pairs_below
pairs_below_more n a =
    let next : suc a ≡ a + 1 = omega arith in
    subst (λ k. pairs_below n k ≡ pairs_below n a ++ pairs_of a n) next refl

-- how many pairs a node has
length-pairs_of : (a b : ℕ) → length (pairs_of a b) ≡ b - (a + 1)
unfolding pairs_of
length-pairs_of a zero = omega arith
length-pairs_of a (suc b) = elim (cases_lt a b) [
  | inl lt ↦ rw (lt-ltb a b lt) (omega (arith, length_push (pairs_of a b) (pair a b), length-pairs_of a b, lt))
  | inr le ↦ rw (le-ltb a b le, append-nil (pairs_of a b)) (omega (arith, length-pairs_of a b, le))
]

-- twice as many pairs as those whose lower node is below k, and what k nodes lack
twice_pairs_below : (n k : ℕ) → k ≤ n → 2 * length (pairs_below n k) + k * k + k ≡ 2 * (k * n)
unfolding pairs_below
twice_pairs_below n zero le = omega arith
twice_pairs_below n (suc k) le = omega (arith, le, length-append (pairs_below n k) (pairs_of k n), length-pairs_of k n, twice_pairs_below n k (omega (arith, le)))

-- how many there are
pub length-pairs : (n : ℕ) → length (pairs n) ≡ pair_count n
length-pairs n = half n (length (pairs n)) (twice_pairs_below n n (omega arith))
  where
    half : (n k : ℕ) → 2 * k + n * n + n ≡ 2 * (n * n) → k ≡ n * (n - 1) / 2
    half zero k e = omega (arith, e)
    half (suc m) k e =
        let less : suc m - 1 ≡ m = omega arith in
        rw less (omega (arith, e))

-- they are some, and can be counted in 32 bits
pub pairs_few : (n : ℕ) → 3 ≤ n → n ≤ drawn_node_limit → (0 < length (pairs n)) × (length (pairs n) < 2 ^ 32)
pairs_few n some few =
    let twice = twice_pairs_below n n (omega arith) in
    (omega (arith, twice, more n (n - 3) (omega (arith, some))), omega (arith, twice, less n (drawn_node_limit - n) (omega (arith, few))))
  where
    more : (n m : ℕ) → n ≡ 3 + m → 3 * n ≤ n * n
    more n m is = let whole : n * n ≡ (3 + m) * n = ap (λ k. k * n) is in omega (arith, whole)

    less : (n m : ℕ) → n + m ≡ drawn_node_limit → n * n ≤ drawn_node_limit * drawn_node_limit
    less n m is = let whole : (n + m) * (n + m) ≡ drawn_node_limit * drawn_node_limit = ap (λ k. k * k) is in omega (arith, whole)

-- the pairs of a node are pairs
pairs_of_are : (n a b : ℕ) → b ≤ n → All (IsPair n) (pairs_of a b)
unfolding pairs_of
pairs_of_are n a zero le = All-nil (IsPair n)
pairs_of_are n a (suc b) le = elim (cases_lt a b) [
  | inl lt ↦ rw (lt-ltb a b lt) (All-push (IsPair n) (pairs_of a b) (pair a b) (pairs_of_are n a b (omega (arith, le))) (lt, omega (arith, le)))
  | inr ge ↦ rw (le-ltb a b ge, append-nil (pairs_of a b)) (pairs_of_are n a b (omega (arith, le)))
]

-- so are all
pairs_below_are : (n k : ℕ) → All (IsPair n) (pairs_below n k)
unfolding pairs_below
pairs_below_are n zero = All-nil (IsPair n)
pairs_below_are n (suc k) = All-append (IsPair n) (pairs_below n k) (pairs_of k n) (pairs_below_are n k) (pairs_of_are n k n (omega arith))

pub pairs_are : (n : ℕ) → All (IsPair n) (pairs n)
pairs_are n = pairs_below_are n n

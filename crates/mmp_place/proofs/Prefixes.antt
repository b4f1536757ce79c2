-- The first nodes of an ascending list: which they are, and how many of them pass a test.
use Rattle.std.proofs.Common.{◌≡◌, ℕ, zero, suc, ◌+◌, ◌<◌, ◌≤◌, nat_lt, Bool, true, false, ◌&&◌, ◌||◌, ◌==◌, List, [], ◌∷◌, length, get_or, take, drop, All, refl, sym, ap, ◌∙◌, subst, arith, inl, inr, lt-ltb, le-ltb}
use Rattle.std.specs.List.Sorted.{IsStrictlyIncreasing}
use Rattle.std.proofs.lemmas.Bool.{cases_Bool, cases_lt, both_ways, or_left, eqb-true, eq-eqb, false_from_ne_true}
use Rattle.std.proofs.lemmas.List.{take-append-drop, take_more, take_all, get_or-take, length-take-le}
use Rattle.std.proofs.lemmas.List.Kept.{AllPairs-from_increasing}
use Rattle.tomo_base.specs.Sets.{one_if, count, has, meet}
use Rattle.tomo_base.proofs.Counts.{count-add, count-none, count-one, count-same}
use Rattle.tomo_base.proofs.Members.{has-append}
use Rattle.tomo_base.proofs.Ascending.{place_in, has-at, never_falls}

-- a number of the prefix is one of the list
pub prefix_in : (xs : List ℕ) (i w : ℕ) → has (take i xs) w ≡ true → has xs w ≡ true
prefix_in xs i w h = ap (λ ys. has ys w) (sym (take-append-drop i xs)) ∙ (has-append (take i xs) (drop i xs) w ∙ or_left (has (take i xs) w) (has (drop i xs) w) h)

-- of the numbers of an ascending list those before place i are less than the one there
pub prefix_below : (xs : List ℕ) (i w : ℕ) → IsStrictlyIncreasing xs → i < length xs → has xs w ≡ true → has (take i xs) w ≡ nat_lt w (get_or xs i 0)
prefix_below xs i w up l h = elim (cases_Bool (has (take i xs) w)) [
  | inl e ↦
      let at = place_in (take i xs) w e in
      let len : length (take i xs) ≡ i = length-take-le i xs (omega (arith, l)) in
      let before : at.0 < i = omega (arith, at.1, len) in
      let same : get_or xs at.0 0 ≡ w = sym (get_or-take i xs at.0 0 before) ∙ at.2 in
      let less : get_or xs at.0 0 < get_or xs i 0 = AllPairs-from_increasing xs up at.0 i 0 before l in
      e ∙ sym (lt-ltb w (get_or xs i 0) (omega (arith, same, less)))
  | inr n ↦
      let at = place_in xs w h in
      e_of n (le-ltb w (get_or xs i 0) (elim (cases_lt at.0 i) [
        | inr ge ↦ omega (arith, never_falls xs up i at.0 ge at.1, at.2)
        | inl lt ↦ absurd (both_ways (has (take i xs) w) n (subst (λ z. has (take i xs) z ≡ true) (get_or-take i xs at.0 0 lt ∙ at.2) (has-at (take i xs) at.0 0 (omega (arith, lt, length-take-le i xs (omega (arith, l)))))))
      ]))
]
  where
    e_of : {a b : Bool} → a ≡ false → b ≡ false → a ≡ b
    e_of p q = p ∙ sym q

-- the one at place i is new
pub prefix_new : (xs : List ℕ) (i : ℕ) → IsStrictlyIncreasing xs → i < length xs → has (take i xs) (get_or xs i 0) ≡ false
prefix_new xs i up l = prefix_below xs i (get_or xs i 0) up l (has-at xs i 0 l) ∙ le-ltb (get_or xs i 0) (get_or xs i 0) (omega arith)

-- a prefix with one number more
pub prefix_more : (xs : List ℕ) (i w : ℕ) → i < length xs → has (take (i + 1) xs) w ≡ (has (take i xs) w || (get_or xs i 0 == w))
unfolding has
prefix_more xs i w l = ap (λ ys. has ys w) (take_more xs i 0 l) ∙ (has-append (take i xs) (get_or xs i 0 ∷ []) w ∙ ap (λ b. has (take i xs) w || b) (or_none (get_or xs i 0 == w)))
  where
    or_none : (b : Bool) → (b || false) ≡ b
    or_none true = refl
    or_none false = refl

-- one number: in the prefix or the one at its end
more_one : (a b q : Bool) → (b ≡ true → a ≡ false) → one_if ((a || b) && q) ≡ one_if (a && q) + one_if (b && q)
more_one true true q fresh = absurd (both_ways true (fresh refl) refl)
more_one true false true fresh = refl
more_one true false false fresh = refl
more_one false b q fresh = omega arith

-- how many numbers of a prefix pass a test: one number more
pub prefix_count_more : (n : ℕ) (xs : List ℕ) (i : ℕ) (q : ℕ → Bool) → IsStrictlyIncreasing xs → All (λ v. v < n) xs → i < length xs
    → count n (meet (has (take (i + 1) xs)) q) ≡ count n (meet (has (take i xs)) q) + one_if (q (get_or xs i 0))
prefix_count_more n xs i q up below l =
    let v = get_or xs i 0 in
    count-add n (meet (has (take (i + 1) xs)) q) (meet (has (take i xs)) q) (λ w. (v == w) && q w) (λ w lw.
    ap (λ b. one_if (b && q w)) (prefix_more xs i w l) ∙ more_one (has (take i xs) w) (v == w) (q w) (λ e. subst (λ z. has (take i xs) z ≡ false) (eqb-true v w e) (prefix_new xs i up l)))
    ∙ ap (λ k. count n (meet (has (take i xs)) q) + k) (single v (below i 0 l))
  where
    single : (v : ℕ) → v < n → count n (λ w. (v == w) && q w) ≡ one_if (q v)
    single v lv = elim (cases_Bool (q v)) [
      | inl e ↦ count-one n (λ w. (v == w) && q w) v lv (rw (eq-eqb v v refl, e) refl) (λ w lw h. sym (eqb-true v w (first (v == w) (q w) h))) ∙ ap one_if (sym e)
      | inr e ↦ count-none n (λ w. (v == w) && q w) (λ w lw. false_from_ne_true ((v == w) && q w) (λ h.
          both_ways (q v) e (subst (λ z. q z ≡ true) (sym (eqb-true v w (first (v == w) (q w) h))) (second (v == w) (q w) h)))) ∙ ap one_if (sym e)
    ]
      where
        first : (a b : Bool) → (a && b) ≡ true → a ≡ true
        first true b h = refl
        first false b h = h

        second : (a b : Bool) → (a && b) ≡ true → b ≡ true
        second true b h = h
        second false b h = absurd (both_ways false refl h)

-- at first none
pub prefix_count_none : (n : ℕ) (xs : List ℕ) (q : ℕ → Bool) → count n (meet (has (take 0 xs)) q) ≡ 0
unfolding has
prefix_count_none n xs q = count-none n (meet (has (take 0 xs)) q) (λ v l. refl)

-- at last all
pub prefix_all : (xs : List ℕ) (i w : ℕ) → length xs ≤ i → has (take i xs) w ≡ has xs w
prefix_all xs i w l = ap (λ ys. has ys w) (take_all i xs l)

-- numbers below v, of all below n
count_upto : (n v : ℕ) (q : ℕ → Bool) → v ≤ n → count n (λ w. q w && nat_lt w v) ≡ count v q
unfolding count
count_upto zero v q l = let e : v ≡ 0 = omega (arith, l) in rw e refl
count_upto (suc n) v q l = elim (cases_lt n v) [
  | inr ge ↦ rw (le-ltb n v ge) (no_more (q n) (count_upto n v q ge))
  | inl lt ↦ let e : v ≡ suc n = omega (arith, l, lt) in
      count-same (suc n) (λ w. q w && nat_lt w v) q (λ w lw. rw (lt-ltb w v (omega (arith, lw, e))) (and_true (q w))) ∙ sym (ap (λ k. count k q) e)
]
  where
    and_true : (b : Bool) → (b && true) ≡ b
    and_true true = refl
    and_true false = refl

    no_more : {a b : ℕ} (x : Bool) → a ≡ b → one_if (x && false) + a ≡ b
    no_more true e = omega (arith, e)
    no_more false e = omega (arith, e)

-- of a set of numbers of the list as many are in the prefix as are below the number at its end
pub prefix_count : (n : ℕ) (xs : List ℕ) (i : ℕ) (q : ℕ → Bool) → IsStrictlyIncreasing xs → All (λ v. v < n) xs → i < length xs → ((w : ℕ) → q w ≡ true → has xs w ≡ true)
    → count n (meet (has (take i xs)) q) ≡ count (get_or xs i 0) q
prefix_count n xs i q up below l inside =
    let v = get_or xs i 0 in
    let small : v < n = below i 0 l in
    count-same n (meet (has (take i xs)) q) (λ w. q w && nat_lt w v) (λ w lw. elim (cases_Bool (q w)) [
      | inl e ↦ rw (e, prefix_below xs i w up l (inside w e)) (and_true (nat_lt w v))
      | inr e ↦ rw e (and_false (has (take i xs) w))
    ]) ∙ count_upto n v q (omega (arith, small))
  where
    and_true : (b : Bool) → (b && true) ≡ b
    and_true true = refl
    and_true false = refl

    and_false : (b : Bool) → (b && false) ≡ false
    and_false true = refl
    and_false false = refl

-- Lists in which no node stands twice, and walks over such.
use Rattle.std.proofs.Common.{ℕ, ◌+◌, ◌<◌, ◌≤◌, ◌≡◌, Bool, true, false, ◌==◌, List, [], ◌∷◌, ◌++◌, length, refl, sym, ap, ◌∙◌, arith, inl, inr, subst, zero, suc, ◌-◌, take, get_or, IsTrue}
use Rattle.std.proofs.lemmas.Bool.{cases_Bool, or_cases, or_parts, eqb-true, eq-eqb, ne_eqb, both_ways, false_from_ne_true, false≢true, cases_eq}
use Rattle.tomo_base.specs.Sets.{count, has, Apart}
use Rattle.tomo_base.specs.Walks.{end_of, NoneTwice, StepsFrom, IsWalk, EndsIn}
use Rattle.tomo_base.proofs.Counts.{count-le, count-less}
use Rattle.tomo_base.proofs.Members.{count_has-le, has_none, has_first, has_later, has_cases, append_cases, append_off}
use Rattle.tomo_base.specs.Network.{Network, IsGraph, linked}
use Rattle.tomo_base.proofs.Links.{linked_below}
use Rattle.tomo_base.proofs.Ascending.{place_in, has-at}

-- the first part of a list without repetition has none
pub once_left : (a b : List ℕ) → NoneTwice (a ++ b) → NoneTwice a
once_left [] b once = tt
once_left (x ∷ a) b once = ((append_off a b x once.0).0, once_left a b once.1)

-- nor has the second
pub once_right : (a b : List ℕ) → NoneTwice (a ++ b) → NoneTwice b
once_right [] b once = once
once_right (x ∷ a) b once = once_right a b once.1

-- and the two share no node
pub once_apart : (a b : List ℕ) → NoneTwice (a ++ b) → Apart (has a) (has b)
once_apart [] b once z h k = both_ways (has [] z) (has_none z) h
once_apart (x ∷ a) b once z h k = elim (has_cases x a z h) [
  | inl e ↦ both_ways (has b x) (append_off a b x once.0).1 (ap (has b) e ∙ k)
  | inr e ↦ once_apart a b once.1 z e k
]

-- two lists without repetition that share no node have none together
pub once_append : (a b : List ℕ) → NoneTwice a → NoneTwice b → Apart (has a) (has b) → NoneTwice (a ++ b)
once_append [] b once once' apart = once'
once_append (x ∷ a) b once once' apart = (
  false_from_ne_true (has (a ++ b) x) (λ h. elim (append_cases a b x h) [
    | inl k ↦ both_ways (has a x) once.0 k
    | inr k ↦ apart x (has_first x a) k
  ]),
  once_append a b once.1 once' (λ z h k. apart z (has_later x a z h) k),
)

-- a node that follows the first is another one
pub not_first : (x : ℕ) (a : List ℕ) (z : ℕ) → NoneTwice (x ∷ a) → has a z ≡ true → x ≡ z → ⊥
not_first x a z once h e = both_ways (has a x) once.0 (ap (has a) e ∙ h)

-- different numbers below n are no more than their set has
pub few_once : (n : ℕ) (xs : List ℕ) → NoneTwice xs → ((v : ℕ) → has xs v ≡ true → v < n) → length xs ≤ count n (has xs)
unfolding has
few_once n [] once below = omega arith
few_once n (x ∷ xs) once below =
    let rest = few_once n xs once.1 (λ v h. below v (rw h (grind arith))) in
    let here : has (x ∷ xs) x ≡ true = rw (eq-eqb x x refl) refl in
    let more = count-less n (has xs) (has (x ∷ xs)) x (below x here) once.0 here (λ v l h. rw h (grind arith)) in
    omega (arith, rest, more)

-- different numbers below n are at most n
pub few_below : (n : ℕ) (xs : List ℕ) → NoneTwice xs → ((v : ℕ) → has xs v ≡ true → v < n) → length xs ≤ n
few_below n xs once below = omega (arith, few_once n xs once below, count-le n (has xs))

-- different numbers that pass a test, as many as pass it, are all that pass it
pub all_passing : (n : ℕ) (p : ℕ → Bool) (xs : List ℕ) → NoneTwice xs → ((v : ℕ) → has xs v ≡ true → (v < n) × (p v ≡ true)) → count n p ≤ length xs → (v : ℕ) → v < n → p v ≡ true → has xs v ≡ true
all_passing n p xs once into few v l h = elim (cases_Bool (has xs v)) [
  | inl e ↦ e
  | inr e ↦ absurd (omega (arith, few, few_once n xs once (λ w k. (into w k).0), count-less n (has xs) p v l e h (λ w _ k. (into w k).1)))
]

-- some number is above all of a list
above : (xs : List ℕ) → (n : ℕ) × ((v : ℕ) → has xs v ≡ true → v < n)
above [] = (0, λ v h. absurd (both_ways (has [] v) (has_none v) h))
above (x ∷ xs) = let r = above xs in (x + 1 + r.0, λ v h. elim (has_cases x xs v h) [ inl e ↦ omega (arith, e) | inr e ↦ omega (arith, r.1 v e) ])

-- different numbers that lie in a list as short as theirs are all of it
pub fills : (xs ys : List ℕ) → NoneTwice xs → ((v : ℕ) → has xs v ≡ true → has ys v ≡ true) → length ys ≤ length xs → (v : ℕ) → has ys v ≡ true → has xs v ≡ true
fills xs ys once sub short v h =
    let r = above ys in
    all_passing r.0 (has ys) xs once (λ w k. (r.1 w (sub w k), sub w k)) (omega (arith, count_has-le r.0 ys, short)) v (r.1 v h) h

-- the last node of a list is in it
pub has_end : (x : ℕ) (a : List ℕ) → has (x ∷ a) (end_of x a) ≡ true
has_end x [] = has_first x []
has_end x (y ∷ a) = has_later x (y ∷ a) (end_of y a) (has_end y a)

-- each of the first i nodes is linked to the next of them
abbrev pub IsWalkTo : Network → List ℕ → ℕ → Type 0
IsWalkTo g path i = (k : ℕ) → suc k < i → IsTrue (linked g (get_or path k 0) (get_or path (suc k) 0))

-- each of the first i nodes differs from those before it
abbrev pub IsNewTo : List ℕ → ℕ → Type 0
IsNewTo path i = (k : ℕ) → k < i → has (take k path) (get_or path k 0) ≡ false

-- a list each of whose nodes is linked to the next is a walk
steps_from : (g : Network) (a : ℕ) (p : List ℕ) → IsWalkTo g (a ∷ p) (length (a ∷ p)) → StepsFrom g a p
steps_from g a [] each = tt
steps_from g a (b ∷ p) each = (each 0 (omega arith), steps_from g b p (λ k l. each (suc k) (omega (arith, l))))

pub walk_from : (g : Network) (path : List ℕ) → IsWalkTo g path (length path) → IsWalk g path
walk_from g [] each = tt
walk_from g (a ∷ p) each = steps_from g a p each

-- in a walk each node is linked to the next
steps_at : (g : Network) (a : ℕ) (p : List ℕ) → StepsFrom g a p → IsWalkTo g (a ∷ p) (length (a ∷ p))
steps_at g a [] steps k l = absurd (omega (arith, l))
steps_at g a (b ∷ p) steps zero l = steps.0
steps_at g a (b ∷ p) steps (suc k) l = steps_at g b p steps.1 k (omega (arith, l))

pub walk_at : (g : Network) (path : List ℕ) → IsWalk g path → IsWalkTo g path (length path)
walk_at g [] walk = λ k l. absurd (omega (arith, l))
walk_at g (a ∷ p) walk = steps_at g a p walk

-- a list whose nodes differ from those before them has no node twice
pub none_twice_from : (path : List ℕ) → IsNewTo path (length path) → NoneTwice path
unfolding has
none_twice_from [] each = tt
none_twice_from (a ∷ p) each = (
  elim (cases_Bool (has p a)) [
    | inl there ↦
        let at = place_in p a there in
        absurd (both_ways (a == get_or p at.0 0) (or_parts _ _ (each (suc at.0) (omega (arith, at.1)))).0 (eq-eqb a (get_or p at.0 0) (sym at.2)))
    | inr none ↦ none
  ],
  none_twice_from p (λ k l. (or_parts _ _ (each (suc k) (omega (arith, l)))).1),
)

-- where no node stands twice, each differs from those before it
pub none_twice_at : (path : List ℕ) → NoneTwice path → IsNewTo path (length path)
unfolding has
none_twice_at [] once k l = absurd (omega (arith, l))
none_twice_at (a ∷ p) once zero l = refl
none_twice_at (a ∷ p) once (suc k) l =
    let within : k < length p = omega (arith, l) in
    rw (ne_eqb a (get_or p k 0) (λ same. both_ways (has p a) once.0 (rw same (has-at p k 0 within)))) (none_twice_at p once.1 k within)

-- the last node stands at the last place
pub end_at : (a : ℕ) (p : List ℕ) → end_of a p ≡ get_or (a ∷ p) (length p) 0
end_at a [] = refl
end_at a (b ∷ p) = end_at b p

-- the two ends of a list, by place
pub ends_at : (m : ℕ → Bool) (path : List ℕ) → EndsIn m path → (0 < length path) × IsTrue (m (get_or path 0 0)) × IsTrue (m (get_or path (length path - 1) 0))
ends_at m [] ends = elim ends [ ]
ends_at m (a ∷ p) ends = let e : suc (length p) - 1 ≡ length p = omega arith in (omega arith, ends.0, rw (e, sym (end_at a p)) ends.1)

pub ends_from : (m : ℕ → Bool) (path : List ℕ) → 0 < length path → IsTrue (m (get_or path 0 0)) → IsTrue (m (get_or path (length path - 1) 0)) → EndsIn m path
ends_from m [] some first last = omega (arith, some)
ends_from m (a ∷ p) some first last = let e : suc (length p) - 1 ≡ length p = omega arith in (first, rw (end_at a p) (rw e at last))

-- one node more is linked to the one before
pub walk_more : (g : Network) (path : List ℕ) (i : ℕ) → 1 ≤ i → IsTrue (linked g (get_or path (i - 1) 0) (get_or path i 0)) → IsWalkTo g path i → IsWalkTo g path (i + 1)
walk_more g path i some last before k l = elim (cases_eq (suc k) i) [
  | inl same ↦ let e : i - 1 ≡ k = omega (arith, same) in rw same (rw e at last)
  | inr other ↦ before k (omega (arith, l, other))
]

-- one node more differs from those before it
pub new_more : (path : List ℕ) (i : ℕ) → has (take i path) (get_or path i 0) ≡ false → IsNewTo path i → IsNewTo path (i + 1)
new_more path i last before k l = elim (cases_eq k i) [
  | inl same ↦ rw same last
  | inr other ↦ before k (omega (arith, l, other))
]

-- no entry of the list is the number
pub has_no_entry : (xs : List ℕ) (v : ℕ) → ((k d : ℕ) → 0 ≤ k → k < length xs → (get_or xs k d == v) ≡ false) → has xs v ≡ false
has_no_entry xs v none = elim (cases_Bool (has xs v)) [
  | inl there ↦ let at = place_in xs v there in absurd (both_ways _ (none at.0 0 (omega arith) at.1) (eq-eqb (get_or xs at.0 0) v at.2))
  | inr out ↦ out
]

-- some entry is
pub has_entry : (xs : List ℕ) (v k : ℕ) → k < length xs → ((d : ℕ) → (get_or xs k d == v) ≡ true) → has xs v ≡ true
has_entry xs v k l same = rw (← eqb-true (get_or xs k 0) v (same 0)) (has-at xs k 0 l)

-- the nodes of a walk that begins with a node are nodes
steps_below : (g : Network) (a : ℕ) (p : List ℕ) → IsGraph g → StepsFrom g a p → a < g.nodes → (v : ℕ) → has (a ∷ p) v ≡ true → v < g.nodes
unfolding has
steps_below g a [] graph steps l v h = elim (or_cases _ _ h) [ inl e ↦ subst (λ z. z < g.nodes) (eqb-true a v e) l | inr e ↦ absurd (false≢true e) ]
steps_below g a (b ∷ p) graph steps l v h = elim (or_cases _ _ h) [
  | inl e ↦ subst (λ z. z < g.nodes) (eqb-true a v e) l
  | inr e ↦ steps_below g b p graph steps.1 (linked_below g.nodes g.links a b graph steps.0).1 v e
]

-- a walk over different nodes has no more nodes than the graph
pub walk_short : (g : Network) (a b : ℕ) (p : List ℕ) → IsGraph g → StepsFrom g a (b ∷ p) → NoneTwice (a ∷ b ∷ p) → length (a ∷ b ∷ p) ≤ g.nodes
walk_short g a b p graph steps once =
    let low = steps_below g a (b ∷ p) graph steps (linked_below g.nodes g.links a b graph steps.0).0 in
    omega (arith, few_once g.nodes (a ∷ b ∷ p) once low, count-le g.nodes (has (a ∷ b ∷ p)))

-- so it has fewer steps, if any
pub steps_short : (g : Network) (a : ℕ) (p : List ℕ) → IsGraph g → StepsFrom g a p → NoneTwice (a ∷ p) → length p ≤ g.nodes
steps_short g a [] graph steps once = omega arith
steps_short g a (b ∷ p) graph steps once = omega (arith, walk_short g a b p graph steps once)

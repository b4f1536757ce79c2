-- What an ascending list of nodes keeps when a node is put into it, and that a set has one such list.
use Rattle.std.proofs.Common.{◌≡◌, ℕ, zero, suc, ◌+◌, ◌<◌, ◌≤◌, Bool, true, false, ◌||◌, ◌==◌, List, [], ◌∷◌, ◌++◌, length, get_or, take, drop, ne_eqb, All, refl, sym, ap, ap₂, ◌∙◌, subst, inl, inr, arith, Result, Ok, Err, is_ok}
use Rattle.std.specs.List.{insert}
use Rattle.std.specs.List.Sorted.{IsStrictlyIncreasing, IsBinarySearchResult}
use Rattle.std.specs.Ordering.{nat_cmp}
use Rattle.std.proofs.lemmas.Bool.{both_ways, cases_order, cases_lt, cases_eq, cases_Bool, or_cases, or_left, or_right, eqb-true, eq-eqb, false_from_ne_true, true≢false}
use Rattle.std.proofs.lemmas.List.Edits.{length-insert, get_or-insert_below, get_or-insert_at, get_or-insert_above}
use Rattle.std.proofs.lemmas.List.Kept.{AllPairs-from_increasing}
use Rattle.std.proofs.lemmas.List.Sorted.{searched}
use Rattle.std.proofs.lemmas.List.{take-append-drop, take_more, length_push, get_or_append_left, get_or_push, append-nil}
use Rattle.tomo_base.specs.Limits.{graph_node_limit}
use Rattle.tomo_base.specs.Sets.{has, members}
use Rattle.tomo_base.specs.NodeLists.{IsNodeSet}
use Rattle.tomo_base.proofs.Counts.{count-le}
use Rattle.tomo_base.proofs.Members.{members_below, count-has, has-append, first_least, increasing-tail, first_once}

-- a set of nodes has at most as many as a graph may have
pub length-node_set : (xs : List ℕ) → IsNodeSet xs → length xs ≤ graph_node_limit
length-node_set xs is = omega (arith, count-has graph_node_limit xs is.ascending is.below, count-le graph_node_limit (has xs))

-- the numbers of an ascending list do not fall
pub never_falls : (xs : List ℕ) → IsStrictlyIncreasing xs → (i j : ℕ) → i ≤ j → j < length xs → get_or xs i 0 ≤ get_or xs j 0
never_falls xs up i j le l = elim (cases_eq i j) [
  | inl same ↦ rw same (omega arith)
  | inr other ↦ omega (arith, AllPairs-from_increasing xs up i j 0 (omega arith) l)
]

-- a number of the set stands at some place of the list
pub place_in : (xs : List ℕ) (v : ℕ) → has xs v ≡ true → (i : ℕ) × (i < length xs) × (get_or xs i 0 ≡ v)
unfolding has
place_in [] v h = absurd (true≢false (sym h))
place_in (x ∷ xs) v h = elim (or_cases (x == v) (has xs v) h) [
  | inl e ↦ (zero, omega arith, eqb-true x v e)
  | inr e ↦ let rest = place_in xs v e in (suc rest.0, omega (arith, rest.1), rest.2)
]

-- a number at a place of the list is in its set
pub has-at : (xs : List ℕ) (i d : ℕ) → i < length xs → has xs (get_or xs i d) ≡ true
unfolding has
has-at [] i d l = absurd (omega arith)
has-at (x ∷ xs) zero d l = or_left (x == x) (has xs x) (eq-eqb x x refl)
has-at (x ∷ xs) (suc i) d l = or_right (x == get_or xs i d) (has xs (get_or xs i d)) (has-at xs i d (omega arith))

-- what holds of each element of a list holds of each number of its set
pub All-has : (P : ℕ → Type 0) (xs : List ℕ) → All P xs → (v : ℕ) → has xs v ≡ true → P v
All-has P xs all v h = let at = place_in xs v h in subst P at.2 (all at.0 0 at.1)

-- and the other way
pub All-from_has : (P : ℕ → Type 0) (xs : List ℕ) → ((v : ℕ) → has xs v ≡ true → P v) → All P xs
All-from_has P xs each k d l = each (get_or xs k d) (has-at xs k d l)

-- and of a set into which a number was put
pub All_inserted : (P : ℕ → Type 0) (old new : List ℕ) (v : ℕ) → ((w : ℕ) → has new w ≡ ((v == w) || has old w)) → P v → All P old → All P new
All_inserted P old new v sets here all = All-from_has P new (λ w at. elim (or_cases (v == w) (has old w) (sym (sets w) ∙ at)) [
  | inl same ↦ subst P (eqb-true v w same) here
  | inr before ↦ All-has P old all w before
])

-- a place in an ascending list where a new number belongs
pub record BelongsAt (xs : List ℕ) (i v : ℕ) : Type 0 where
  pub within : i ≤ length xs
  pub before : (k : ℕ) → k < i → get_or xs k 0 < v
  pub after : (k : ℕ) → i ≤ k → k < length xs → v < get_or xs k 0

-- it is new there
pub belongs_new : (xs : List ℕ) (i v : ℕ) → BelongsAt xs i v → has xs v ≡ false
belongs_new xs i v b = false_from_ne_true (has xs v) (λ h.
    let at = place_in xs v h in
    elim (cases_order at.0 i) [
      | inl same ↦ omega (arith, b.after at.0 (omega (arith, same)) at.1, at.2)
      | inr other ↦ elim other [ inl lt ↦ omega (arith, b.before at.0 lt, at.2) | inr gt ↦ omega (arith, b.after at.0 (omega (arith, gt)) at.1, at.2) ]
    ])

-- the list still ascends
pub insert_ascends : (xs : List ℕ) (i v : ℕ) → IsStrictlyIncreasing xs → BelongsAt xs i v → IsStrictlyIncreasing (insert xs i v)
insert_ascends xs i v up b k l =
    let len : length (insert xs i v) ≡ length xs + 1 = length-insert xs i v b.within in
    elim (cases_order (k + 1) i) [
      | inl same ↦ rw (get_or-insert_below xs i v 0 k (omega (arith, same)) b.within, same, get_or-insert_at xs i v 0 b.within) (b.before k (omega (arith, same)))
      | inr other ↦ elim other [
        | inl lt ↦ rw (get_or-insert_below xs i v 0 k (omega arith) b.within, get_or-insert_below xs i v 0 (k + 1) lt b.within) (up k (omega (arith, b.within)))
        | inr gt ↦ elim (cases_eq k i) [
          | inl same ↦ rw (same, get_or-insert_at xs i v 0 b.within, get_or-insert_above xs i v 0 i (omega arith) b.within) (b.after i (omega arith) (omega (arith, l, len, same)))
          | inr ne ↦ above (omega (arith, gt, ne)) (omega (arith, l, len)) k refl
        ]
      ]
    ]
  where
    above : i < k → k < length xs → (m : ℕ) → m ≡ k → get_or (insert xs i v) m 0 < get_or (insert xs i v) (m + 1) 0
    above gt lt zero e = absurd (omega (arith, gt, e))
    above gt lt (suc m) e =
        let next : suc m ≡ m + 1 = omega arith in
        rw (next, get_or-insert_above xs i v 0 m (omega (arith, gt, e)) b.within, get_or-insert_above xs i v 0 (m + 1) (omega (arith, gt, e)) b.within) (up m (omega (arith, lt, e)))

-- it has the number, and what it had
pub has-insert : (xs : List ℕ) (i v w : ℕ) → has (insert xs i v) w ≡ ((v == w) || has xs w)
unfolding has
has-insert xs i v w =
    rw has-append (regroup (has (take i xs) w) (v == w) (has (drop i xs) w) ∙ ap (λ b. (v == w) || b) (sym (has-append (take i xs) (drop i xs) w) ∙ ap (λ ys. has ys w) (take-append-drop i xs)))
  where
    regroup : (a b c : Bool) → (a || (b || c)) ≡ (b || (a || c))
    regroup a b c = grind arith

-- all its nodes are below the limit
insert_below : (xs : List ℕ) (i v : ℕ) → v < graph_node_limit → All (λ x. x < graph_node_limit) xs → All (λ x. x < graph_node_limit) (insert xs i v)
insert_below xs i v lt all = All-from_has (λ x. x < graph_node_limit) (insert xs i v) (λ w h.
    elim (or_cases (v == w) (has xs w) (sym (has-insert xs i v w) ∙ h)) [
      | inl e ↦ (let same : v ≡ w = eqb-true v w e in omega (arith, same, lt))
      | inr e ↦ All-has (λ x. x < graph_node_limit) xs all w e
    ])

-- where a search for a node ends without finding it, the node belongs
pub belongs_at : (xs : List ℕ) (v i : ℕ) → IsNodeSet xs → IsBinarySearchResult (λ y. nat_cmp y v) xs (Err i) → BelongsAt xs i v
belongs_at xs v i is position =
    let found = searched xs v (Err i) position (never_falls xs is.ascending) in
    record { within = found.0; before = found.1; after = found.2 }

-- a node that a search finds is in the set
pub has_found : (xs : List ℕ) (v i : ℕ) → IsNodeSet xs → IsBinarySearchResult (λ y. nat_cmp y v) xs (Ok i) → has xs v ≡ true
has_found xs v i is position =
    let found = searched xs v (Ok i) position (never_falls xs is.ascending) in
    subst (λ x. has xs x ≡ true) found.1 (has-at xs i 0 found.0)

-- a search finds just the nodes of the set
pub is_ok-search : (xs : List ℕ) (v : ℕ) (r : Result ℕ ℕ) → IsNodeSet xs → IsBinarySearchResult (λ y. nat_cmp y v) xs r → is_ok r ≡ has xs v
is_ok-search xs v (Ok i) is position = sym (has_found xs v i is position)
is_ok-search xs v (Err i) is position = sym (belongs_new xs i v (belongs_at xs v i is position))

-- a set that has the node does not change by it
pub has_already : (xs : List ℕ) (v : ℕ) → has xs v ≡ true → (w : ℕ) → has xs w ≡ ((v == w) || has xs w)
has_already xs v h w = elim (cases_Bool (v == w)) [
  | inl e ↦ rw e (ap (has xs) (sym (eqb-true v w e)) ∙ h)
  | inr e ↦ rw e refl
]

-- the list with the node put where it belongs is the ascending list of the set with it
pub insert_node : (xs : List ℕ) (i v : ℕ) → IsNodeSet xs → BelongsAt xs i v → v < graph_node_limit → IsNodeSet (insert xs i v)
insert_node xs i v is b lt = record { ascending = insert_ascends xs i v is.ascending b; below = insert_below xs i v lt is.below }

-- two ascending lists with the same numbers are equal
pub same_list : (xs ys : List ℕ) → IsStrictlyIncreasing xs → IsStrictlyIncreasing ys → ((v : ℕ) → has xs v ≡ has ys v) → xs ≡ ys
unfolding has
same_list [] [] up up' same = refl
same_list [] (y ∷ ys) up up' same = absurd (true≢false (sym (same y ∙ or_left (y == y) (has ys y) (eq-eqb y y refl))))
same_list (x ∷ xs) [] up up' same = absurd (true≢false (sym (or_left (x == x) (has xs x) (eq-eqb x x refl)) ∙ same x))
same_list (x ∷ xs) (y ∷ ys) up up' same =
    let low : x ≤ y = first_least (x ∷ xs) up y (same y ∙ or_left (y == y) (has ys y) (eq-eqb y y refl)) in
    let high : y ≤ x = first_least (y ∷ ys) up' x (sym (same x) ∙ or_left (x == x) (has xs x) (eq-eqb x x refl)) in
    let first : x ≡ y = omega (arith, low, high) in
    ap₂ ◌∷◌ first (same_list xs ys (increasing-tail x xs up) (increasing-tail y ys up') (λ v. rest v first))
  where
    rest : (v : ℕ) → x ≡ y → has xs v ≡ has ys v
    rest v first = elim (cases_eq x v) [
      | inl e ↦ ap (has xs) (sym e) ∙ (first_once x xs up ∙ (sym (first_once y ys up') ∙ ap (has ys) (sym first ∙ e)))
      | inr ne ↦ sym (ap (λ b. b || has xs v) (ne_eqb x v ne)) ∙ (same v ∙ ap (λ b. b || has ys v) (ne_eqb y v (λ e. ne (first ∙ e))))
    ]

-- ---- loops over the nodes of a set

-- a set and no list
pub has-none : (xs : List ℕ) (w : ℕ) → has xs w ≡ (has xs w || has [] w)
unfolding has
has-none xs w = grind arith

-- a set with one node more of a list
pub has-more : (all old : ℕ → Bool) (xs : List ℕ) (i d v w : ℕ) → i < length xs → v ≡ get_or xs i d → all w ≡ (old w || has (take i xs) w) →
    ((v == w) || all w) ≡ (old w || has (take (i + 1) xs) w)
unfolding has
has-more all old xs i d v w l same before =
    rw (take_more xs i d l, has-append (take i xs) (get_or xs i d ∷ []) w, sym same, before) (regroup (v == w) (old w) (has (take i xs) w))
  where
    regroup : (a b c : Bool) → (a || (b || c)) ≡ (b || (c || (a || false)))
    regroup a b c = grind arith

-- an ascending list goes on ascending with a number above all of it
pub increasing_push : (xs : List ℕ) (x : ℕ) → IsStrictlyIncreasing xs → ((v : ℕ) → has xs v ≡ true → v < x) → IsStrictlyIncreasing (xs ++ x ∷ [])
increasing_push xs x up above k l = elim (cases_lt (k + 1) (length xs)) [
  | inl lt ↦ (let here : k < length xs = omega arith in rw (get_or_append_left xs (x ∷ []) 0 k here, get_or_append_left xs (x ∷ []) 0 (k + 1) lt) (up k lt))
  | inr ge ↦ (
      let here : k < length xs = omega (arith, l, length_push xs x) in
      let last : length xs ≡ k + 1 = omega (arith, ge, here) in
      rw (get_or_append_left xs (x ∷ []) 0 k here, get_or_push xs x 0 (k + 1) last) (above (get_or xs k 0) (has-at xs k 0 here)))
]

-- the members of a set ascend
pub members_ascend : (n : ℕ) (q : ℕ → Bool) → IsStrictlyIncreasing (members n q)
unfolding members
members_ascend zero q = λ k l. absurd (omega arith)
members_ascend (suc n) q = elim (cases_Bool (q n)) [
  | inl e ↦ rw e (increasing_push (members n q) n (members_ascend n q) (below n q))
  | inr e ↦ rw (e, append-nil (members n q)) (members_ascend n q)
]
  where
    below : (m : ℕ) (p : ℕ → Bool) (v : ℕ) → has (members m p) v ≡ true → v < m
    below m p v h = elim (cases_lt v m) [ inl lt ↦ lt | inr ge ↦ absurd (both_ways (has (members m p) v) (members_below m p v ge) h) ]

-- Lists of nodes that are kept by a test, marks on nodes, and ascending lists of nodes.
use Rattle.std.proofs.Common.{◌≡◌, ◌≢◌, ℕ, ◌+◌, ◌<◌, Bool, true, false, not, ◌&&◌, ◌||◌, ◌==◌, List, [], ◌∷◌, ◌++◌, length, get_or, set, take, refl, sym, ap, ◌∙◌, inl, inr, arith, get_or-set_same, get_or-set_other}
use Rattle.std.specs.List.{filter}
use Rattle.std.specs.List.Sorted.{IsStrictlyIncreasing}
use Rattle.std.proofs.lemmas.Bool.{cases_eq, cases_Bool, or_cases, or_left, or_right, and_parts, eqb-true, eq-eqb, ne_eqb, true≢false, and_right}
use Rattle.std.proofs.lemmas.List.{take_more, append-nil}
use Rattle.std.proofs.lemmas.List.Elements.{filter-append}
use Rattle.std.proofs.lemmas.List.Kept.{IsStrictlyIncreasing-filter}
use Rattle.tomo_base.specs.Sets.{has, minus, without, Within}
use Rattle.tomo_base.specs.Search.{mark_of}
use Rattle.tomo_base.specs.SetLists.{IsSetBelow}
use Rattle.tomo_base.proofs.Members.{has-append}
use Rattle.tomo_base.proofs.Ascending.{All-has, All-from_has}

-- one number more that passes the test
pub filter_more : (p : ℕ → Bool) (xs kept : List ℕ) (i d x : ℕ) → i < length xs → x ≡ get_or xs i d → p x ≡ true → kept ≡ filter p (take i xs) → kept ++ x ∷ [] ≡ filter p (take (i + 1) xs)
filter_more p xs kept i d x l same passes before =
    rw (before, take_more xs i d l, filter-append p (take i xs) (get_or xs i d ∷ []), sym same) (rw passes refl)

-- one that does not pass
pub filter_past : (p : ℕ → Bool) (xs kept : List ℕ) (i d x : ℕ) → i < length xs → x ≡ get_or xs i d → p x ≡ false → kept ≡ filter p (take i xs) → kept ≡ filter p (take (i + 1) xs)
filter_past p xs kept i d x l same fails before =
    rw (before, take_more xs i d l, filter-append p (take i xs) (get_or xs i d ∷ []), sym same) (rw fails (sym (append-nil (filter p (take i xs)))))

-- what is kept is what passes
pub has-filter : (p : ℕ → Bool) (xs : List ℕ) (v : ℕ) → has (filter p xs) v ≡ (has xs v && p v)
unfolding has
has-filter p [] v = refl
has-filter p (x ∷ xs) v = elim (cases_Bool (p x)) [
  | inl e ↦ rw (e, has-filter p xs v) (elim (cases_Bool (x == v)) [
    | inl same ↦ rw (same, sym (ap p (eqb-true x v same)) ∙ e) refl
    | inr other ↦ rw other refl
  ])
  | inr e ↦ rw (e, has-filter p xs v) (elim (cases_Bool (x == v)) [
    | inl same ↦ rw (same, sym (ap p (eqb-true x v same)) ∙ e) (out (has xs v))
    | inr other ↦ rw other refl
  ])
]
  where
    out : (b : Bool) → (b && false) ≡ (true && false)
    out b = and_right b false refl

-- it is a set below n
pub IsSetBelow-filter : (n : ℕ) (p : ℕ → Bool) (xs : List ℕ) → IsSetBelow n xs → IsSetBelow n (filter p xs)
IsSetBelow-filter n p xs is = record {
  ascending = IsStrictlyIncreasing-filter p xs is.ascending;
  below = All-from_has (λ v. v < n) (filter p xs) (λ v h. All-has (λ v. v < n) xs is.below v (and_parts (has xs v) (p v) (sym (has-filter p xs v) ∙ h)).0);
}

-- a list with two different numbers has not one alone
pub not_alone : (xs : List ℕ) (v w : ℕ) → has xs v ≡ true → has xs w ≡ true → v ≢ w → length xs ≢ 1
unfolding has
not_alone [] v w hv hw ne one = absurd (omega arith)
not_alone (x ∷ []) v w hv hw ne one = ne (only v hv ∙ sym (only w hw))
  where
    only : (u : ℕ) → ((x == u) || false) ≡ true → u ≡ x
    only u h = elim (or_cases (x == u) false h) [ inl e ↦ sym (eqb-true x u e) | inr e ↦ absurd (true≢false (sym e)) ]
not_alone (x ∷ y ∷ xs) v w hv hw ne one = absurd (omega arith)

-- an ascending list with a number and not alone has another
pub another : (xs : List ℕ) (w : ℕ) → IsStrictlyIncreasing xs → has xs w ≡ true → length xs ≢ 1 → (v : ℕ) × (has xs v ≡ true) × (v ≢ w)
unfolding has
another [] w up h one = absurd (true≢false (sym h))
another (x ∷ []) w up h one = absurd (one refl)
another (x ∷ y ∷ xs) w up h one = elim (cases_eq x w) [
  | inr ne ↦ (x, or_left (x == x) ((y == x) || has xs x) (eq-eqb x x refl), ne)
  | inl same ↦ (let rises : x < y = up 0 (omega arith) in
      (y, or_right (x == y) ((y == y) || has xs y) (or_left (y == y) (has xs y) (eq-eqb y y refl)), λ e. omega (arith, rises, same, e)))
]

-- no marks are taken away
pub marks_all : (marks : List Bool) (w : ℕ) → mark_of marks w ≡ minus (mark_of marks) (has []) w
unfolding has
marks_all marks w = kept (mark_of marks w)
  where
    kept : (b : Bool) → b ≡ (b && not false)
    kept b = grind arith

-- the mark of the node at the next place of a list is taken away
pub marks_fewer : (xs : List ℕ) (first marks : List Bool) (i d x w : ℕ) → i < length xs → x ≡ get_or xs i d → x < length marks
    → mark_of marks w ≡ minus (mark_of first) (has (take i xs)) w → mark_of (set marks x false) w ≡ minus (mark_of first) (has (take (i + 1) xs)) w
unfolding has
marks_fewer xs first marks i d x w l same room before =
    rw (take_more xs i d l, has-append (take i xs) (get_or xs i d ∷ []) w, sym same) (elim (cases_eq w x) [
      | inl e ↦ rw (e, get_or-set_same marks x false false room, eq-eqb x x refl) (out (mark_of first x) (has (take i xs) x))
      | inr ne ↦ rw (get_or-set_other marks x w false false ne, before, ne_eqb x w (λ e. ne (sym e))) (none (mark_of first w) (has (take i xs) w))
    ])
  where
    out : (a b : Bool) → false ≡ (a && not (b || (true || false)))
    out a b = grind arith

    none : (a b : Bool) → (a && not b) ≡ (a && not (b || (false || false)))
    none a b = grind arith

-- marks without one node
pub marks_but : (xs : List ℕ) (marks : List Bool) (out w : ℕ) → out < length marks → mark_of marks w ≡ has xs w → mark_of (set marks out false) w ≡ without (has xs) out w
marks_but xs marks out w room before = elim (cases_eq w out) [
  | inl e ↦ rw (e, get_or-set_same marks out false false room, eq-eqb out out refl) (sym (and_right (has xs out) (not true) refl))
  | inr ne ↦ rw (get_or-set_other marks out w false false ne, before, ne_eqb w out ne) (kept (has xs w))
]
  where
    kept : (b : Bool) → b ≡ (b && not false)
    kept b = grind arith

-- a set with the node at the next place of a list
pub has-next : (xs : List ℕ) (i d x w : ℕ) (old : ℕ → Bool) → i < length xs → x ≡ get_or xs i d → old w ≡ has (take i xs) w → ((x == w) || old w) ≡ has (take (i + 1) xs) w
unfolding has
has-next xs i d x w old l same before =
    rw (take_more xs i d l, has-append (take i xs) (get_or xs i d ∷ []) w, sym same, before) (regroup (x == w) (has (take i xs) w))
  where
    regroup : (a b : Bool) → (a || b) ≡ (b || (a || false))
    regroup a b = grind arith

-- where all that has a mark stands in the list, what is kept is what has a mark
pub has-marked : (marks : List Bool) (xs : List ℕ) → Within (mark_of marks) (has xs) → (v : ℕ) → has (filter (mark_of marks) xs) v ≡ mark_of marks v
has-marked marks xs inside v = has-filter (mark_of marks) xs v ∙ elim (cases_Bool (mark_of marks v)) [
  | inl t ↦ rw (t, inside v t) refl
  | inr f ↦ rw f (and_right (has xs v) false refl)
]

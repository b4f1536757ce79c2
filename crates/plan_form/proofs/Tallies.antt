-- Tallies: the sums of coefficients that a list of terms has, path by path.
use Rattle.std.proofs.Common.{◌≡◌, ◌≢◌, ℕ, zero, suc, ◌+◌, ◌*◌, ◌<◌, ◌≤◌, ◌⊎◌, ◌==◌, cond, not, Bool, false, true, List, [], ◌∷◌, ◌++◌, map, length, take, drop, set, get_or, filter, ℤ, pos, negsuc, ◌+ℤ◌, refl, sym, ap, ◌∙◌, subst, inl, inr, arith, All, AllPairs, HoldsAt, Result, Ok, Err, OnOk, is_err, length-append, ◌^◌, true≢false, take-append-drop}
use Rattle.std.specs.List.{insert, AllWithin}
use Rattle.std.proofs.lemmas.Bool.{cases_Bool, cases_eq, eq-eqb, ne_eqb}
use Rattle.std.proofs.lemmas.Int.{ints}
use Rattle.std.proofs.lemmas.List.{map_more, take_more, map-append, length-map, get_or-map, get_or_default, append-nil, get_or_append_left, get_or_push}
use Rattle.std.proofs.lemmas.List.Elements.{All-head, All-tail, All-cons, filter-append}
use Rattle.std.proofs.lemmas.List.Kept.{AllPairs-filter, AllPairs-cons}
use Rattle.tomo_base.proofs.Lists.{AllPairs-head, AllPairs-tail, AllPairs-insert}
use Rattle.simple_path.specs.declared.recipe.Term.{Term}
use Rattle.plan_form.specs.declared.sums.Tally.{Tally}
use Rattle.plan_form.specs.Building.{sum_at, renumbered, IsMerged}
use Rattle.plan_form.specs.Buildable.{IsShort}
use Rattle.plan_form.specs.Parts.{IsCoefficient}
use Rattle.plan_form.specs.Steps.{term_of, IsWithin, AreSums}

-- ---- sums

-- a path that no term has
pub sum_at-others : (ts : List Term) (k : ℕ) → All (λ t. t.path ≢ k) ts → sum_at ts k ≡ pos 0
unfolding sum_at
sum_at-others [] k all = refl
sum_at-others (t ∷ ts) k all = rw (ne_eqb t.path k (All-head (λ (t : Term). t.path ≢ k) t ts all), sum_at-others ts k (All-tail (λ (t : Term). t.path ≢ k) t ts all)) refl

-- where paths ascend, each stands once, so its coefficient is the sum
pub sum_at-place : (ts : List Term) (i : ℕ) (d : Term) → AllPairs (λ t u. t.path < u.path) ts → i < length ts → sum_at ts (get_or ts i d).path ≡ (get_or ts i d).coef
unfolding sum_at
sum_at-place [] i d up l = absurd (omega (arith, l))
sum_at-place (t ∷ ts) zero d up l =
    let later : All (λ (u : Term). t.path < u.path) ts = AllPairs-head (λ (t u : Term). t.path < u.path) t ts up in
    let rest : sum_at ts t.path ≡ pos 0 = sum_at-others ts t.path (λ k e m same. omega (arith, later k e m, same)) in
    rw (eq-eqb t.path t.path refl, rest) (omega (arith, ints))
sum_at-place (t ∷ ts) (suc i) d up l =
    let here : t.path < (get_or ts i d).path = AllPairs-head (λ (t u : Term). t.path < u.path) t ts up i d (omega (arith, l)) in
    let rest : sum_at ts (get_or ts i d).path ≡ (get_or ts i d).coef = sum_at-place ts i d (AllPairs-tail (λ (t u : Term). t.path < u.path) t ts up) (omega (arith, l)) in
    let other : t.path ≢ (get_or ts i d).path = λ same. absurd (omega (arith, here, same)) in
    rw (ne_eqb t.path (get_or ts i d).path other, rest) (zero_plus (get_or ts i d).coef)
  where
    zero_plus : (z : ℤ) → pos 0 +ℤ z ≡ z
    zero_plus z = omega (arith, ints)

-- terms one after the other
pub sum_at-append : (ts us : List Term) (k : ℕ) → sum_at (ts ++ us) k ≡ sum_at ts k +ℤ sum_at us k
unfolding sum_at
sum_at-append [] us k = omega (arith, ints)
sum_at-append (t ∷ ts) us k = omega (arith, ints, sum_at-append ts us k)

-- one term more at the end
sum_at-push : (ts : List Term) (t : Term) (k : ℕ) → sum_at (ts ++ t ∷ []) k ≡ cond (t.path == k) t.coef (pos 0) +ℤ sum_at ts k
unfolding sum_at
sum_at-push ts t k = omega (arith, ints, sum_at-append ts (t ∷ []) k)

-- a coefficient added to a tally
pub sum_at-set : (xs : List Tally) (p : ℕ) (d : Tally) (c : ℤ) (k : ℕ) → p < length xs
    → sum_at (map term_of (set xs p (record { path = (get_or xs p d).path; sum = (get_or xs p d).sum +ℤ c }))) k ≡ cond ((get_or xs p d).path == k) c (pos 0) +ℤ sum_at (map term_of xs) k
unfolding sum_at
sum_at-set [] p d c k l = absurd (omega (arith, l))
sum_at-set (x ∷ xs) zero d c k l = elim (cases_Bool (x.path == k)) [ inl e ↦ rw e (omega (arith, ints)) | inr e ↦ rw e (omega (arith, ints)) ]
sum_at-set (x ∷ xs) (suc p) d c k l = omega (arith, ints, sum_at-set xs p d c k (omega (arith, l)))

-- a new tally
pub sum_at-insert : (xs : List Tally) (p : ℕ) (y : Tally) (k : ℕ) → sum_at (map term_of (insert xs p y)) k ≡ cond (y.path == k) y.sum (pos 0) +ℤ sum_at (map term_of xs) k
unfolding sum_at
sum_at-insert xs zero y k = refl
sum_at-insert [] (suc p) y k = refl
sum_at-insert (x ∷ xs) (suc p) y k = omega (arith, ints, sum_at-insert xs p y k)

-- ---- the order of tallies

-- the paths of tallies ascend
abbrev pub Ascend : List Tally → Type 0
Ascend xs = AllPairs (λ s t. s.path < t.path) xs

-- those of the terms do too
pub terms_ascend : (xs : List Tally) → Ascend xs → AllPairs (λ t u. t.path < u.path) (map term_of xs)
terms_ascend [] up = λ i j d l m. absurd (omega (arith, m))
terms_ascend (x ∷ xs) up =
    AllPairs-cons (λ (t u : Term). t.path < u.path) (term_of x) (map term_of xs) (later x xs (AllPairs-head (λ (s t : Tally). s.path < t.path) x xs up)) (terms_ascend xs (AllPairs-tail (λ (s t : Tally). s.path < t.path) x xs up))
  where
    later : (x : Tally) (xs : List Tally) → All (λ t. x.path < t.path) xs → All (λ t. x.path < t.path) (map term_of xs)
    later x [] all k d l = absurd (omega (arith, l))
    later x (y ∷ ys) all zero d l = All-head (λ (t : Tally). x.path < t.path) y ys all
    later x (y ∷ ys) all (suc k) d l = later x ys (All-tail (λ (t : Tally). x.path < t.path) y ys all) k d (omega (arith, l))

-- and the other way
pub tallies_ascend : (xs : List Tally) → AllPairs (λ t u. t.path < u.path) (map term_of xs) → Ascend xs
tallies_ascend [] up = λ i j d l m. absurd (omega (arith, m))
tallies_ascend (x ∷ xs) up =
    AllPairs-cons (λ (s t : Tally). s.path < t.path) x xs (later x xs (AllPairs-head (λ (t u : Term). t.path < u.path) (term_of x) (map term_of xs) up)) (tallies_ascend xs (AllPairs-tail (λ (t u : Term). t.path < u.path) (term_of x) (map term_of xs) up))
  where
    later : (x : Tally) (xs : List Tally) → All (λ t. x.path < t.path) (map term_of xs) → All (λ t. x.path < t.path) xs
    later x [] all k d l = absurd (omega (arith, l))
    later x (y ∷ ys) all zero d l = All-head (λ (t : Term). x.path < t.path) (term_of y) (map term_of ys) all
    later x (y ∷ ys) all (suc k) d l = later x ys (All-tail (λ (t : Term). x.path < t.path) (term_of y) (map term_of ys) all) k d (omega (arith, l))

-- another sum for a path
pub Ascend-set : (xs : List Tally) (p : ℕ) (d : Tally) (z : ℤ) → p < length xs → Ascend xs → Ascend (set xs p (record { path = (get_or xs p d).path; sum = z }))
Ascend-set [] p d z l up = absurd (omega (arith, l))
Ascend-set (x ∷ xs) zero d z l up =
    AllPairs-cons (λ (s t : Tally). s.path < t.path) (record { path = x.path; sum = z }) xs (AllPairs-head (λ (s t : Tally). s.path < t.path) x xs up) (AllPairs-tail (λ (s t : Tally). s.path < t.path) x xs up)
Ascend-set (x ∷ xs) (suc p) d z l up =
    AllPairs-cons (λ (s t : Tally). s.path < t.path) x (set xs p (record { path = (get_or xs p d).path; sum = z })) (later x xs p d z (omega (arith, l)) (AllPairs-head (λ (s t : Tally). s.path < t.path) x xs up))
    (Ascend-set xs p d z (omega (arith, l)) (AllPairs-tail (λ (s t : Tally). s.path < t.path) x xs up))
  where
    later : (x : Tally) (xs : List Tally) (p : ℕ) (d : Tally) (z : ℤ) → p < length xs → All (λ t. x.path < t.path) xs → All (λ t. x.path < t.path) (set xs p (record { path = (get_or xs p d).path; sum = z }))
    later x [] p d z l all k e m = absurd (omega (arith, l))
    later x (y ∷ ys) zero d z l all zero e m = All-head (λ (t : Tally). x.path < t.path) y ys all
    later x (y ∷ ys) zero d z l all (suc k) e m = All-tail (λ (t : Tally). x.path < t.path) y ys all k e (omega (arith, m))
    later x (y ∷ ys) (suc p) d z l all zero e m = All-head (λ (t : Tally). x.path < t.path) y ys all
    later x (y ∷ ys) (suc p) d z l all (suc k) e m = later x ys p d z (omega (arith, l)) (All-tail (λ (t : Tally). x.path < t.path) y ys all) k e (omega (arith, m))

-- a new path, where it belongs
pub Ascend-insert : (xs : List Tally) (p : ℕ) (y : Tally) → p ≤ length xs → Ascend xs → AllWithin (λ s. s.path < y.path) xs 0 p → (p < length xs → HoldsAt (λ s. y.path ≤ s.path) xs p) → (p < length xs → (d : Tally) → (get_or xs p d).path ≢ y.path) → Ascend (insert xs p y)
Ascend-insert xs p y within up below here new =
    AllPairs-insert (λ (s t : Tally). s.path < t.path) xs p y within up (λ k d l. below k d (omega arith) l)
    (λ k d le l. after k d le l)
  where
    after : (k : ℕ) (d : Tally) → p ≤ k → k < length xs → y.path < (get_or xs k d).path
    after k d le l =
        let at : y.path ≤ (get_or xs p d).path = here (omega (arith, le, l)) d in
        let other : (get_or xs p d).path ≢ y.path = new (omega (arith, le, l)) d in
        elim (cases_eq p k) [
          | inl same ↦ subst (λ j. y.path < (get_or xs j d).path) same (omega (arith, at, other))
          | inr ne ↦ omega (arith, at, up p k d (omega (arith, le, ne)) l)
        ]

-- ---- one term more

-- an entry that was read, where another default stands for none
read_again : (xs : List Tally) (p : ℕ) (x y : Tally) → p < length xs → x ≡ get_or xs p x → y ≡ get_or xs p y → x ≡ y
read_again xs p x y l x_is y_is = x_is ∙ (get_or_default xs p x y l ∙ sym y_is)

-- the sums after the tally of the path has one term more
pub plus_sums : (xs : List Tally) (p : ℕ) (x y z : Tally) (t : Term) (k : ℕ) → p < length xs → x ≡ get_or xs p x → x.path ≡ t.path → y ≡ get_or xs p y → z ≡ record { path = y.path; sum = y.sum +ℤ t.coef }
    → sum_at (map term_of (set xs p z)) k ≡ cond (t.path == k) t.coef (pos 0) +ℤ sum_at (map term_of xs) k
plus_sums xs p x y z t k l x_is same y_is z_is =
    let path : y.path ≡ t.path = ap (λ (s : Tally). s.path) (sym (read_again xs p x y l x_is y_is)) ∙ same in
    let at : sum_at (map term_of (set xs p (record { path = y.path; sum = y.sum +ℤ t.coef }))) k ≡ cond (y.path == k) t.coef (pos 0) +ℤ sum_at (map term_of xs) k =
    subst (λ (s : Tally). sum_at (map term_of (set xs p (record { path = s.path; sum = s.sum +ℤ t.coef }))) k ≡ cond (s.path == k) t.coef (pos 0) +ℤ sum_at (map term_of xs) k) (sym y_is) (sum_at-set xs p y t.coef k l) in
    rw (z_is, ← path) at

-- and their order
pub plus_ascends : (xs : List Tally) (p : ℕ) (y z : Tally) (t : Term) → p < length xs → y ≡ get_or xs p y → z ≡ record { path = y.path; sum = y.sum +ℤ t.coef } → Ascend xs → Ascend (set xs p z)
plus_ascends xs p y z t l y_is z_is up =
    let at : Ascend (set xs p (record { path = y.path; sum = y.sum +ℤ t.coef })) = subst (λ (s : Tally). Ascend (set xs p (record { path = s.path; sum = y.sum +ℤ t.coef }))) (sym y_is) (Ascend-set xs p y (y.sum +ℤ t.coef) l up) in
    subst (λ s. Ascend (set xs p s)) (sym z_is) at

-- the sums after a tally is new
pub new_sums : (xs : List Tally) (p : ℕ) (y : Tally) (t : Term) (k : ℕ) → term_of y ≡ t → sum_at (map term_of (insert xs p y)) k ≡ cond (t.path == k) t.coef (pos 0) +ℤ sum_at (map term_of xs) k
new_sums xs p y t k is = subst (λ (u : Term). sum_at (map term_of (insert xs p y)) k ≡ cond (u.path == k) u.coef (pos 0) +ℤ sum_at (map term_of xs) k) is (sum_at-insert xs p y k)

-- and their order
pub new_ascends : (xs : List Tally) (p : ℕ) (y : Tally) (t : Term) → term_of y ≡ t → p ≤ length xs → Ascend xs → AllWithin (λ s. s.path < t.path) xs 0 p → (p < length xs → HoldsAt (λ s. t.path ≤ s.path) xs p)
    → (p < length xs → (d : Tally) → (get_or xs p d).path ≢ t.path) → Ascend (insert xs p y)
new_ascends xs p y t is within up =
    subst (λ (u : Term). AllWithin (λ (s : Tally). s.path < u.path) xs 0 p → (p < length xs → HoldsAt (λ (s : Tally). u.path ≤ s.path) xs p) → (p < length xs → (d : Tally) → (get_or xs p d).path ≢ u.path) → Ascend (insert xs p y)) is
    (Ascend-insert xs p y within up)

-- a tally of another path
pub another : (xs : List Tally) (p : ℕ) (x : Tally) (n : ℕ) → x ≡ get_or xs p x → (x.path ≡ n → ⊥) → p < length xs → (d : Tally) → (get_or xs p d).path ≢ n
another xs p x n is other l d e = other (ap (λ (s : Tally). s.path) (is ∙ get_or_default xs p x d l) ∙ e)

-- ---- adding up

-- the sums of the first i terms, and how large they are
pub record AreTallied (number : ℕ → ℕ) (terms : List Term) (i : ℕ) (tallies : List Tally) : Type 0 where
  pub sums : AreSums (renumbered number (take i terms)) (map term_of tallies)
  pub small : (k : ℕ) → IsWithin (128 * i) (sum_at (map term_of tallies) k)

-- no term yet
pub tallied_none : (number : ℕ → ℕ) (terms : List Term) → AreTallied number terms 0 []
unfolding sum_at
tallied_none number terms = record {
  sums = record { ascending = λ i j d l m. absurd (omega (arith, m)); sums = λ k. refl };
  small = λ k. (omega (arith, ints), omega (arith, ints));
}

-- one term more, renumbered
renumbered-push : (number : ℕ → ℕ) (ts : List Term) (t : Term) → renumbered number (ts ++ t ∷ []) ≡ renumbered number ts ++ record { coef = t.coef; path = number t.path } ∷ []
renumbered-push number [] t = refl
renumbered-push number (u ∷ ts) t = ap (λ rest. record { coef = u.coef; path = number u.path } ∷ rest) (renumbered-push number ts t)

-- one term more
pub tallied_more : (number : ℕ → ℕ) (terms : List Term) (i : ℕ) (d t : Term) (old new : List Tally) → i < length terms → t ≡ record { coef = (get_or terms i d).coef; path = number (get_or terms i d).path } → IsWithin 128 t.coef
    → Ascend new → ((k : ℕ) → sum_at (map term_of new) k ≡ cond (t.path == k) t.coef (pos 0) +ℤ sum_at (map term_of old) k)
    → AreTallied number terms i old → AreTallied number terms (i + 1) new
tallied_more number terms i d t old new l is fits up added tallied = record {
  sums = record { ascending = terms_ascend new up; sums = λ k. added k ∙ (ap (λ s. cond (t.path == k) t.coef (pos 0) +ℤ s) (tallied.sums.sums k) ∙ sym (more k)) };
  small = λ k. within (t.path == k) t.coef (sum_at (map term_of new) k) (sum_at (map term_of old) k) i fits (tallied.small k) (added k);
}
  where
    more : (k : ℕ) → sum_at (renumbered number (take (i + 1) terms)) k ≡ cond (t.path == k) t.coef (pos 0) +ℤ sum_at (renumbered number (take i terms)) k
    more k = rw (take_more terms i d l, renumbered-push number (take i terms) (get_or terms i d), ← is) (sum_at-push (renumbered number (take i terms)) t k)

    within : (b : Bool) (c new old : ℤ) (i : ℕ) → IsWithin 128 c → IsWithin (128 * i) old → new ≡ cond b c (pos 0) +ℤ old → IsWithin (128 * (i + 1)) new
    within true c new old i w h e = (omega (arith, ints, w.0, w.1, h.0, h.1, e), omega (arith, ints, w.0, w.1, h.0, h.1, e))
    within false c new old i w h e = (omega (arith, ints, w.0, w.1, h.0, h.1, e), omega (arith, ints, w.0, w.1, h.0, h.1, e))

-- a sum of few terms is far from the limits
pub tallied_room : (number : ℕ → ℕ) (terms : List Term) (i : ℕ) (tallies : List Tally) → i < 2 ^ 32 → AreTallied number terms i tallies → All (λ s. IsWithin (2 ^ 40) s.sum) tallies
tallied_room number terms i tallies few tallied k d l =
    let same : sum_at (map term_of tallies) (get_or tallies k d).path ≡ (get_or tallies k d).sum = rw (get_or-map term_of tallies k d (term_of d) l) at (sum_at-place (map term_of tallies) k (term_of d) tallied.sums.ascending (rw length-map l)) in
    let at = tallied.small (get_or tallies k d).path in
    (omega (arith, ints, at.0, same, few), omega (arith, ints, at.1, same, few))

-- ---- sums other than 0

-- the coefficient is not 0
abbrev is_some : ℤ → Bool
is_some (pos n) = not (n == 0)
is_some (negsuc n) = true

-- the terms whose coefficient is not 0
abbrev pub kept : List Term → List Term
kept ts = filter (λ t. is_some t.coef) ts

-- one term more
pub kept_some : (xs : List Tally) (i : ℕ) (d : Tally) → i < length xs → (get_or xs i d).sum ≢ pos 0 → kept (map term_of (take (i + 1) xs)) ≡ kept (map term_of (take i xs)) ++ term_of (get_or xs i d) ∷ []
kept_some xs i d l some = rw (map_more term_of xs i d l, filter-append (λ (t : Term). is_some t.coef) (map term_of (take i xs)) (term_of (get_or xs i d) ∷ []), is_some_from (get_or xs i d).sum some) refl
  where
    is_some_from : (z : ℤ) → z ≢ pos 0 → is_some z ≡ true
    is_some_from (pos zero) ne = absurd (ne refl)
    is_some_from (pos (suc n)) ne = rw (ne_eqb (suc n) 0 (λ e. absurd (omega (arith, e)))) refl
    is_some_from (negsuc n) ne = refl

-- one term more that is not kept
pub kept_none : (xs : List Tally) (i : ℕ) (d : Tally) → i < length xs → (get_or xs i d).sum ≡ pos 0 → kept (map term_of (take (i + 1) xs)) ≡ kept (map term_of (take i xs))
kept_none xs i d l none = rw (map_more term_of xs i d l, filter-append (λ (t : Term). is_some t.coef) (map term_of (take i xs)) (term_of (get_or xs i d) ∷ []), none) (append-nil (kept (map term_of (take i xs))))

-- what is kept has the same sums
sum_at-kept : (ts : List Term) (k : ℕ) → sum_at (kept ts) k ≡ sum_at ts k
unfolding sum_at
sum_at-kept [] k = refl
sum_at-kept (t ∷ ts) k = elim (cases_Bool (is_some t.coef)) [
  | inl e ↦ rw e (ap (λ s. cond (t.path == k) t.coef (pos 0) +ℤ s) (sum_at-kept ts k))
  | inr e ↦ rw (e, no_coefficient t.coef e) (elim (cases_Bool (t.path == k)) [ inl at ↦ rw at (omega (arith, ints, sum_at-kept ts k)) | inr at ↦ rw at (omega (arith, ints, sum_at-kept ts k)) ])
]
  where
    no_coefficient : (z : ℤ) → is_some z ≡ false → z ≡ pos 0
    no_coefficient (pos zero) e = refl
    no_coefficient (pos (suc n)) e = absurd (true≢false (sym (rw (ne_eqb (suc n) 0 (λ e. absurd (omega (arith, e)))) refl) ∙ e))
    no_coefficient (negsuc n) e = absurd (true≢false e)

-- no coefficient that is kept is 0
some_kept : (ts : List Term) → All (λ t. t.coef ≢ pos 0) (kept ts)
some_kept [] = λ k d l. absurd (omega (arith, l))
some_kept (t ∷ ts) = elim (cases_Bool (is_some t.coef)) [
  | inl e ↦ rw e (All-cons (λ (t : Term). t.coef ≢ pos 0) t (kept ts) (coefficient t.coef e) (some_kept ts))
  | inr e ↦ rw e (some_kept ts)
]
  where
    coefficient : (z : ℤ) → is_some z ≡ true → z ≢ pos 0
    coefficient z e same = true≢false (sym e ∙ ap is_some same)

-- what is kept is merged
pub merged_kept : (ts : List Term) → AllPairs (λ t u. t.path < u.path) ts → IsMerged ts (kept ts)
merged_kept ts up = record {
  ascending = AllPairs-filter (λ (t u : Term). t.path < u.path) (λ (t : Term). is_some t.coef) ts up;
  some = some_kept ts;
  sums = sum_at-kept ts;
}

-- a merge of the sums is one of the terms
pub merged_sums : (old sums new : List Term) → AreSums old sums → IsMerged sums new → IsMerged old new
merged_sums old sums new are merged = record { ascending = merged.ascending; some = merged.some; sums = λ k. merged.sums k ∙ are.sums k }

-- what holds of each term that is kept holds of each that has a coefficient
kept_all : (P : Term → Type 0) (xs : List Tally) (i : ℕ) (d : Tally) → All P (kept (map term_of xs)) → i < length xs → (get_or xs i d).sum ≢ pos 0 → P (term_of (get_or xs i d))
kept_all P xs i d all l some =
    let more : kept (map term_of (take (i + 1) xs)) ≡ kept (map term_of (take i xs)) ++ term_of (get_or xs i d) ∷ [] = kept_some xs i d l some in
    let whole : kept (map term_of xs) ≡ (kept (map term_of (take i xs)) ++ term_of (get_or xs i d) ∷ []) ++ kept (map term_of (drop (i + 1) xs)) =
    sym (ap (λ ys. kept (map term_of ys)) (take-append-drop (i + 1) xs)) ∙ (ap kept (map-append term_of (take (i + 1) xs) (drop (i + 1) xs)) ∙ (filter-append (λ (t : Term). is_some t.coef) (map term_of (take (i + 1) xs)) (map term_of (drop (i + 1) xs)) ∙ ap (λ ys. ys ++ kept (map term_of (drop (i + 1) xs))) more)) in
    let place : length before < length (before ++ term_of (get_or xs i d) ∷ []) = omega (arith, length-append before (term_of (get_or xs i d) ∷ [])) in
    let read : get_or ((before ++ term_of (get_or xs i d) ∷ []) ++ after) (length before) (term_of d) ≡ term_of (get_or xs i d) =
    get_or_append_left (before ++ term_of (get_or xs i d) ∷ []) after (term_of d) (length before) place ∙ get_or_push before (term_of (get_or xs i d)) (term_of d) (length before) refl in
    let within : length before < length ((before ++ term_of (get_or xs i d) ∷ []) ++ after) = omega (arith, place, length-append (before ++ term_of (get_or xs i d) ∷ []) after) in
    subst P read (subst (All P) whole all (length before) (term_of d) within)
  where
    before : List Term
    before = kept (map term_of (take i xs))

    after : List Term
    after = kept (map term_of (drop (i + 1) xs))

-- each sum is small: one that is kept is a coefficient
pub kept_small : (xs : List Tally) (i : ℕ) (d : Tally) → IsShort (kept (map term_of xs)) → i < length xs → IsWithin 4 (get_or xs i d).sum
kept_small xs i d short l = elim (cases_none (get_or xs i d).sum) [
  | inl none ↦ rw none (omega (arith, ints), omega (arith, ints))
  | inr some ↦ small (get_or xs i d).sum (kept_all (λ t. IsCoefficient t.coef) xs i d short.2 l some)
]
  where
    small : (z : ℤ) → IsCoefficient z → IsWithin 4 z
    small (pos n) is = (omega (arith, ints, is.1), omega (arith, ints, is.1))
    small (negsuc n) is = (omega (arith, ints, is), omega (arith, ints, is))

    cases_none : (z : ℤ) → (z ≡ pos 0) ⊎ (z ≢ pos 0)
    cases_none (pos zero) = inl refl
    cases_none (pos (suc n)) = inr (λ e. positive n e)
      where
        positive : (n : ℕ) → pos (suc n) ≡ pos 0 → ⊥
        positive n e = omega (arith, ints, e)
    cases_none (negsuc n) = inr (λ e. negative n e)
      where
        negative : (n : ℕ) → negsuc n ≡ pos 0 → ⊥
        negative n e = omega (arith, ints, e)

-- as many as are kept of the first are few
pub kept_few : (xs : List Tally) (i : ℕ) → IsShort (kept (map term_of xs)) → length (kept (map term_of (take i xs))) ≤ 16
kept_few xs i short =
    let whole : kept (map term_of xs) ≡ kept (map term_of (take i xs)) ++ kept (map term_of (drop i xs)) =
    sym (ap (λ ys. kept (map term_of ys)) (take-append-drop i xs)) ∙ (ap kept (map-append term_of (take i xs) (drop i xs)) ∙ filter-append (λ (t : Term). is_some t.coef) (map term_of (take i xs)) (map term_of (drop i xs))) in
    omega (arith, short.1, ap length whole, length-append (kept (map term_of (take i xs))) (kept (map term_of (drop i xs))))

-- ---- recipes

-- the first i recipes, rewritten
pub record AreRewritten (number : ℕ → ℕ) (old : List (List Term)) (i : ℕ) (new : List (List Term)) : Type 0 where
  pub one_each : length new ≡ i
  pub merged : (j : ℕ) → j < i → IsMerged (renumbered number (get_or old j [])) (get_or new j [])

-- none yet
pub rewritten_none : (number : ℕ → ℕ) (old : List (List Term)) → AreRewritten number old 0 []
rewritten_none number old = record { one_each = refl; merged = λ j l. absurd (omega (arith, l)) }

-- one more
pub rewritten_more : (number : ℕ → ℕ) (old new : List (List Term)) (i : ℕ) (terms : List Term) → IsMerged (renumbered number (get_or old i [])) terms → AreRewritten number old i new → AreRewritten number old (i + 1) (new ++ terms ∷ [])
rewritten_more number old new i terms merged are = record {
  one_each = omega (arith, length-append new (terms ∷ []), are.one_each);
  merged = λ j l. elim (cases_eq j i) [
    | inl same ↦ rw (same, get_or_push new terms [] i are.one_each) merged
    | inr ne ↦ rw (get_or_append_left new (terms ∷ []) [] j (omega (arith, l, ne, are.one_each))) (are.merged j (omega (arith, l, ne)))
  ];
}

-- what an answer promises where it is none of an error
pub where_ok : {A B : Type 0} (r : Result A B) (P : Type 0) → OnOk r P → is_err r ≡ false → P
where_ok (Ok a) P h none = h
where_ok (Err b) P h none = absurd (true≢false none)

-- Adding up the coefficients of each path leaves no more terms than there were, and names no other paths.
use Rattle.std.proofs.Common.{◌≡◌, ◌≢◌, ℕ, zero, suc, ◌+◌, ◌<◌, ◌≤◌, true, List, [], ◌∷◌, length, map, get_or, All, AllPairs, pos, refl, sym, ap, ◌∙◌, subst, inl, inr, arith}
use Rattle.std.proofs.Math.IntN.{+ℤ_idl, +ℤ_idr}
use Rattle.std.proofs.lemmas.Bool.{cases_eq, eq-eqb, ne_eqb}
use Rattle.std.proofs.lemmas.List.{length-map, get_or-map}
use Rattle.std.specs.List.Sorted.{IsStrictlyIncreasing}
use Rattle.tomo_base.specs.Sets.{has}
use Rattle.tomo_base.proofs.Counts.{count-mono}
use Rattle.tomo_base.proofs.Members.{count-has, count_has-le}
use Rattle.tomo_base.proofs.Ascending.{has-at, place_in, All-has, All-from_has}
use Rattle.simple_path.specs.declared.recipe.Term.{Term}
use Rattle.plan_form.specs.Building.{sum_at, IsMerged}
use Rattle.plan_form.proofs.Tallies.{sum_at-place, sum_at-others}
use Rattle.tomo_base.proofs.Lists.{AllPairs-head, AllPairs-tail}

-- the paths of terms
abbrev pub numbers_of : List Term → List ℕ
numbers_of ts = map (λ t. t.path) ts

-- where the sum is not 0, some term names the path
pub sum_found : (ts : List Term) (k : ℕ) → sum_at ts k ≢ pos 0 → (i : ℕ) × (i < length ts) × ((d : Term) → (get_or ts i d).path ≡ k)
unfolding sum_at
sum_found [] k some = absurd (some refl)
sum_found (t ∷ ts) k some = elim (cases_eq t.path k) [
  | inl same ↦ (zero, omega arith, λ d. same)
  | inr other ↦
      let rest = sum_found ts k (λ none. some (rw (ne_eqb t.path k other, none) refl)) in
      (suc rest.0, omega (arith, rest.1), rest.2)
]

-- the coefficient of a merged term is the sum that its path has
pub merged_sum : (old new : List Term) (j : ℕ) (d : Term) → IsMerged old new → j < length new → sum_at old (get_or new j d).path ≡ (get_or new j d).coef
merged_sum old new j d merged l = sym (merged.sums (get_or new j d).path) ∙ sum_at-place new j d merged.ascending l

-- a merged term names the path of a term that was given
pub merged_names : (old new : List Term) (j : ℕ) (d : Term) → IsMerged old new → j < length new → (i : ℕ) × (i < length old) × ((get_or old i d).path ≡ (get_or new j d).path)
merged_names old new j d merged l =
    let found = sum_found old (get_or new j d).path (λ none. merged.some j d l (sym (merged_sum old new j d merged l) ∙ none)) in
    (found.0, found.1, found.2 d)

-- the paths of ascending terms ascend
numbers_ascend : (ts : List Term) → AllPairs (λ t u. t.path < u.path) ts → IsStrictlyIncreasing (numbers_of ts)
numbers_ascend ts up k l =
    let d : Term = record { coef = pos 0; path = 0 } in
    let size = length-map ts (λ (t : Term). t.path) in
    rw (get_or-map (λ (t : Term). t.path) ts k d 0 (omega (arith, l, size)), get_or-map (λ (t : Term). t.path) ts (k + 1) d 0 (omega (arith, l, size))) (up k (k + 1) d (omega arith) (omega (arith, l, size)))

-- there are no more merged terms than given ones
pub merged_few : (n : ℕ) (old new : List Term) → IsMerged old new → All (λ t. t.path < n) old → length new ≤ length old
merged_few n old new merged below =
    let d : Term = record { coef = pos 0; path = 0 } in
    let path : Term → ℕ = λ t. t.path in
    let given : (v : ℕ) → has (numbers_of new) v ≡ true → has (numbers_of old) v ≡ true = λ v h.
    let at = place_in (numbers_of new) v h in
    let lt : at.0 < length new = omega (arith, at.1, length-map new path) in
    let from = merged_names old new at.0 d merged lt in
    let size : from.0 < length (numbers_of old) = omega (arith, from.1, length-map old path) in
    let same : get_or (numbers_of old) from.0 0 ≡ v = get_or-map path old from.0 d 0 from.1 ∙ (from.2 ∙ (sym (get_or-map path new at.0 d 0 lt) ∙ at.2)) in
    subst (λ w. has (numbers_of old) w ≡ true) same (has-at (numbers_of old) from.0 0 size) in
    let all : All (λ v. v < n) (numbers_of new) = All-has-below n (numbers_of new) (numbers_of old) given (λ k e l.
    let lt : k < length old = omega (arith, l, length-map old path) in rw (get_or-map path old k d e lt) (below k d lt)) in
    omega (arith, count-has n (numbers_of new) (numbers_ascend new merged.ascending) all, count-mono n (has (numbers_of new)) (has (numbers_of old)) (λ v l. given v), count_has-le n (numbers_of old), length-map old path, length-map new path)
  where
    All-has-below : (n : ℕ) (xs ys : List ℕ) → ((v : ℕ) → has xs v ≡ true → has ys v ≡ true) → All (λ v. v < n) ys → All (λ v. v < n) xs
    All-has-below n xs ys given all = All-from_has (λ v. v < n) xs (λ v h. All-has (λ v. v < n) ys all v (given v h))

-- no two terms name the same path
abbrev pub Different : List Term → Type 0
Different ts = AllPairs (λ t u. t.path ≢ u.path) ts

-- the sum at the path of a term that no other names
sum_once : (ts : List Term) (i : ℕ) (d : Term) → i < length ts → Different ts → sum_at ts (get_or ts i d).path ≡ (get_or ts i d).coef
unfolding sum_at
sum_once [] i d l apart = absurd (omega (arith, l))
sum_once (t ∷ ts) zero d l apart =
    let none : All (λ u. u.path ≢ t.path) ts = λ k e lt same. AllPairs-head (λ (t u : Term). t.path ≢ u.path) t ts apart k e lt (sym same) in
    rw (eq-eqb t.path t.path refl, sum_at-others ts t.path none) (+ℤ_idr t.coef)
sum_once (t ∷ ts) (suc i) d l apart =
    let other : t.path ≢ (get_or ts i d).path = AllPairs-head (λ (t u : Term). t.path ≢ u.path) t ts apart i d (omega (arith, l)) in
    rw (ne_eqb t.path (get_or ts i d).path other) (+ℤ_idl _ ∙ sum_once ts i d (omega (arith, l)) (AllPairs-tail (λ (t u : Term). t.path ≢ u.path) t ts apart))

-- merged terms, one by one, are terms that were given
pub merged_given : (old new : List Term) (j : ℕ) (d : Term) → Different old → IsMerged old new → j < length new → (i : ℕ) × (i < length old) × ((get_or old i d).path ≡ (get_or new j d).path) × ((get_or old i d).coef ≡ (get_or new j d).coef)
merged_given old new j d apart merged l =
    let from = merged_names old new j d merged l in
    (from.0, from.1, from.2, sym (sum_once old from.0 d from.1 apart) ∙ (ap (sum_at old) from.2 ∙ merged_sum old new j d merged l))

-- a term that was given with a coefficient that is not 0 is left
pub merged_kept : (old new : List Term) (j : ℕ) (d : Term) → Different old → IsMerged old new → j < length old → (get_or old j d).coef ≢ pos 0 → (i : ℕ) × (i < length new) × ((e : Term) → (get_or new i e).path ≡ (get_or old j d).path)
merged_kept old new j d apart merged l some =
    let there : sum_at new (get_or old j d).path ≡ (get_or old j d).coef = merged.sums (get_or old j d).path ∙ sum_once old j d l apart in
    sum_found new (get_or old j d).path (λ none. some (sym there ∙ none))

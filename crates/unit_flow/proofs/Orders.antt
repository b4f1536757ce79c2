-- A flow is a flow in any order of its paths.
use Rattle.std.proofs.Common.{ℕ, ◌+◌, ◌≤◌, ◌≡◌, true, false, ◌==◌, List, [], ◌∷◌, sum_by, refl, sym, ap, ◌∙◌, arith, inl, inr}
use Rattle.std.specs.List.Sorted.{IsPermutation}
use Rattle.std.proofs.lemmas.Bool.{cases_Bool, or_parts, eqb-true, eq-eqb, both_ways, false_from_ne_true}
use Rattle.std.proofs.lemmas.List.Sums.{sum_by-cons, sum_by-append}
use Rattle.std.proofs.lemmas.List.Sorted.{All-permutation, sum_by-IsPermutation}
use Rattle.tomo_base.specs.Sets.{one_if, has}
use Rattle.tomo_base.specs.Walks.{NoneTwice}
use Rattle.unit_flow.specs.Flows.{Task, IsRoute, IsFlow, later_of, all_later}

-- how often a number stands in a list
unfoldable times : ℕ → List ℕ → ℕ
times v xs = sum_by (λ x. one_if (x == v)) xs

-- in a longer list
times_cons : (v x : ℕ) (xs : List ℕ) → times v (x ∷ xs) ≡ one_if (x == v) + times v xs
unfolding times
times_cons v x xs = sum_by-cons (λ x. one_if (x == v)) x xs

-- in no list
times_none : (v : ℕ) (xs : List ℕ) → has xs v ≡ false → times v xs ≡ 0
unfolding times has
times_none v [] h = refl
times_none v (x ∷ xs) h =
    let parts = or_parts (x == v) (has xs v) h in
    let rest : times v xs ≡ 0 = times_none v xs parts.1 in
    let here : one_if (x == v) ≡ 0 = ap one_if parts.0 in
    omega (arith, times_cons v x xs, rest, here)

-- at some place
times_some : (v : ℕ) (xs : List ℕ) → has xs v ≡ true → 1 ≤ times v xs
unfolding has
times_some v [] h = absurd (both_ways false refl h)
times_some v (x ∷ xs) h = elim (cases_Bool (x == v)) [
  | inl e ↦ (let here : one_if (x == v) ≡ 1 = ap one_if e in omega (arith, times_cons v x xs, here))
  | inr e ↦ omega (arith, times_cons v x xs, times_some v xs (rw e at h))
]

-- where no number stands twice, each stands once at most
times_few : (xs : List ℕ) → NoneTwice xs → (v : ℕ) → times v xs ≤ 1
unfolding has
times_few [] d v = omega (arith, times_none v [] refl)
times_few (x ∷ xs) d v = elim (cases_Bool (x == v)) [
  | inl e ↦ (let here : one_if (x == v) ≡ 1 = ap one_if e in omega (arith, times_cons v x xs, here, times_none v xs (ap (has xs) (sym (eqb-true x v e)) ∙ d.0)))
  | inr e ↦ (let here : one_if (x == v) ≡ 0 = ap one_if e in omega (arith, times_cons v x xs, here, times_few xs d.1 v))
]

-- and the other way
none_twice : (xs : List ℕ) → ((v : ℕ) → times v xs ≤ 1) → NoneTwice xs
none_twice [] few = tt
none_twice (x ∷ xs) few = (
  false_from_ne_true (has xs x) (λ h.
      let here : one_if (x == x) ≡ 1 = ap one_if (eq-eqb x x refl) in
      omega (arith, few x, times_cons x x xs, here, times_some x xs h)),
  none_twice xs (λ v. omega (arith, few v, times_cons v x xs)),
)

-- how often a number stands in the paths, summed over the paths
times_later : (v : ℕ) (ps : List (List ℕ)) → times v (all_later ps) ≡ sum_by (λ p. times v (later_of p)) ps
unfolding times
times_later v [] = refl
times_later v (p ∷ ps) =
    sum_by-append (λ x. one_if (x == v)) (later_of p) (all_later ps) ∙ ap (λ n. times v (later_of p) + n) (times_later v ps) ∙ sym (sum_by-cons (λ p. times v (later_of p)) p ps)

-- a flow in another order
pub flow_permuted : (t : Task) (ps qs : List (List ℕ)) → IsPermutation ps qs → IsFlow t ps → IsFlow t qs
flow_permuted t ps qs order flow = record {
  routes = All-permutation (IsRoute t) ps qs order flow.routes;
  apart = none_twice (t.source ∷ all_later qs) (λ v.
      let same : times v (all_later qs) ≡ times v (all_later ps) = times_later v qs ∙ sum_by-IsPermutation (λ p. times v (later_of p)) ps qs order ∙ sym (times_later v ps) in
      omega (arith, times_few (t.source ∷ all_later ps) flow.apart v, times_cons v t.source (all_later ps), times_cons v t.source (all_later qs), same));
}

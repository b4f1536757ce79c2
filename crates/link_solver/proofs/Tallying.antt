-- Coefficients are added up, one sum for each path.
use Rattle.std.proofs.Common.{ℕ, zero, suc, ◌+◌, ◌<◌, ◌≤◌, ◌≡◌, ◌==◌, if◌then◌else◌, List, [], ◌∷◌, ◌++◌, take, drop, set, length, get_or, IsTrue, ℤ, pos, negsuc, ◌+ℤ◌, refl, sym, ap, subst, inl, inr, arith}
use Rattle.std.proofs.lemmas.Bool.{cases_eq, eq-eqb, ne_eqb}
use Rattle.std.proofs.lemmas.Int.{ints}
use Rattle.std.proofs.lemmas.List.{get_or-set_same, get_or-set_other, take_more, drop_more, drop_all}
use Rattle.std.proofs.lemmas.List.Sums.{sum_by-cons, sum_by-set}
use Rattle.tomo_base.specs.declared.graph.Link.{Link}
use Rattle.tomo_base.specs.Network.{Network, linked}
use Rattle.tomo_base.specs.Walks.{StepsFrom}
use Rattle.simple_path.specs.declared.recipe.Term.{Term}
use Rattle.plan_form.specs.Building.{sum_at}
use Rattle.plan_form.specs.Tied.{terms_from, terms_along}
use Rattle.plan_form.proofs.Tallies.{sum_at-append}
use Rattle.link_solver.specs.Tally.{sum_of, one_other, other, others, GrewBy}
use Rattle.link_solver.specs.declared.tied.Sum.{Sum}

-- ---- one term

-- no coefficients
abbrev empty : Sum
empty = record { value = pos 0 }

-- a sum that is set to what it was and a coefficient
pub grew_one : (sums : List Sum) (t : Term) (s : Sum) → t.path < length sums → s.value ≡ sum_of sums t.path +ℤ t.coef → GrewBy sums (set sums t.path s) (t ∷ [])
unfolding sum_at
grew_one sums t s l is k = elim (cases_eq k t.path) [
  | inl e ↦
      let here : sum_of (set sums t.path s) k ≡ s.value = subst (λ j. sum_of (set sums t.path s) j ≡ s.value) (sym e) (ap (λ (x : Sum). x.value) (get_or-set_same sums t.path s empty l)) in
      let one : sum_at (t ∷ []) k ≡ t.coef +ℤ pos 0 = rw (eq-eqb t.path k (sym e)) refl in
      omega (arith, ints, here, one, is, ap (sum_of sums) e)
  | inr ne ↦
      let here : sum_of (set sums t.path s) k ≡ sum_of sums k = ap (λ (x : Sum). x.value) (get_or-set_other sums t.path k s empty ne) in
      let none : sum_at (t ∷ []) k ≡ pos 0 +ℤ pos 0 = rw (ne_eqb t.path k (λ e. ne (sym e))) refl in
      omega (arith, ints, here, none)
]

-- how many sums are not 0 then
pub others_set : (sums : List Sum) (i : ℕ) (s : Sum) → i < length sums → others (set sums i s) + one_other (sum_of sums i) ≡ others sums + other s
others_set sums i s l = sum_by-set other sums i s empty l

-- a sum that is not 0 is one of them
pub other_le : (sums : List Sum) (i : ℕ) → i < length sums → one_other (sum_of sums i) ≤ others sums
other_le sums i l = omega (arith, others_set sums i empty l)

-- each counts once
pub other_one : (s : Sum) → other s ≤ 1
other_one s = one s.value
  where
    one : (z : ℤ) → one_other z ≤ 1
    one (pos zero) = omega arith
    one (pos (suc n)) = omega arith
    one (negsuc n) = omega arith

-- they are no more than all
pub others_le : (sums : List Sum) → others sums ≤ length sums
others_le [] = omega arith
others_le (s ∷ sums) = omega (arith, others_le sums, sum_by-cons other s sums, other_one s)

-- where all are 0, each is
pub each_zero : (sums : List Sum) (k : ℕ) → others sums ≡ 0 → sum_of sums k ≡ pos 0
each_zero [] k none = refl
each_zero (s ∷ sums) zero none = zero_is s.value (omega (arith, none, sum_by-cons other s sums))
  where
    zero_is : (z : ℤ) → one_other z ≡ 0 → z ≡ pos 0
    zero_is (pos zero) h = refl
    zero_is (pos (suc n)) h = absurd (omega (arith, h))
    zero_is (negsuc n) h = absurd (omega (arith, h))
each_zero (s ∷ sums) (suc k) none = each_zero sums k (omega (arith, none, sum_by-cons other s sums))

-- ---- terms one after the other

-- no terms
pub grew_none : (sums : List Sum) → GrewBy sums sums []
unfolding sum_at
grew_none sums k = omega (arith, ints)

-- some, and some more
pub grew_more : (old mid new : List Sum) (xs ys : List Term) → GrewBy old mid xs → GrewBy mid new ys → GrewBy old new (xs ++ ys)
grew_more old mid new xs ys first second k = omega (arith, ints, first k, second k, sum_at-append xs ys k)

-- the first of a list, and the next
pub grew_next : (old mid new : List Sum) (terms : List Term) (i : ℕ) (d : Term) → i < length terms → GrewBy old mid (take i terms) → GrewBy mid new (get_or terms i d ∷ []) → GrewBy old new (take (i + 1) terms)
grew_next old mid new terms i d l first second = rw (take_more terms i d l) (grew_more old mid new (take i terms) (get_or terms i d ∷ []) first second)

-- ---- along a walk

-- what is known after i steps of a walk from a: what was added and what is still to come are the terms of the whole walk
pub record IsTalliedTo (g : Network) (f : ℕ → ℕ → List Term) (a : ℕ) (p : List ℕ) (i from : ℕ) (old new : List Sum) : Type 0 where
  pub steps : StepsFrom g from (drop i p)
  pub whole : (k : ℕ) → sum_of new k +ℤ sum_at (terms_from f from (drop i p)) k ≡ sum_of old k +ℤ sum_at (terms_from f a p) k

-- no step yet
pub tallied_none : (g : Network) (f : ℕ → ℕ → List Term) (a : ℕ) (p : List ℕ) (sums : List Sum) → StepsFrom g a p → IsTalliedTo g f a p 0 a sums sums
tallied_none g f a p sums steps = record { steps = steps; whole = λ k. refl }

-- one step more
pub tallied : (g : Network) (f : ℕ → ℕ → List Term) (a : ℕ) (p : List ℕ) (i from : ℕ) (old mid new : List Sum) (d : ℕ) → i < length p → IsTalliedTo g f a p i from old mid → GrewBy mid new (f from (get_or p i d))
    → IsTalliedTo g f a p (i + 1) (get_or p i d) old new
unfolding terms_from
tallied g f a p i from old mid new d l so_far grew =
    let steps : StepsFrom g from (get_or p i d ∷ drop (i + 1) p) = subst (StepsFrom g from) (drop_more p i d l) so_far.steps in
    record {
      steps = steps.1;
      whole = λ k.
          let next : sum_at (terms_from f from (drop i p)) k ≡ sum_at (f from (get_or p i d) ++ terms_from f (get_or p i d) (drop (i + 1) p)) k = ap (λ q. sum_at (terms_from f from q) k) (drop_more p i d l) in
          omega (arith, ints, next, so_far.whole k, grew k, sum_at-append (f from (get_or p i d)) (terms_from f (get_or p i d) (drop (i + 1) p)) k);
    }

-- the node that was reached is linked to the next
pub next_linked : (g : Network) (f : ℕ → ℕ → List Term) (a : ℕ) (p : List ℕ) (i from : ℕ) (old new : List Sum) (d : ℕ) → i < length p → IsTalliedTo g f a p i from old new → IsTrue (linked g from (get_or p i d))
next_linked g f a p i from old new d l so_far = let steps : StepsFrom g from (get_or p i d ∷ drop (i + 1) p) = subst (StepsFrom g from) (drop_more p i d l) so_far.steps in steps.0

-- at the end all terms were added
pub all_tallied : (g : Network) (f : ℕ → ℕ → List Term) (a : ℕ) (p : List ℕ) (i from : ℕ) (old new : List Sum) → length p ≤ i → IsTalliedTo g f a p i from old new → GrewBy old new (terms_from f a p)
unfolding terms_from sum_at
all_tallied g f a p i from old new l so_far k =
    let none : sum_at (terms_from f from (drop i p)) k ≡ pos 0 = ap (λ q. sum_at (terms_from f from q) k) (drop_all i p l) in
    omega (arith, ints, none, so_far.whole k)

-- along no nodes there is nothing to add
pub none_along : (links : List Link) (recipes : List (List Term)) (p : List ℕ) (sums : List Sum) → length p ≡ 0 → GrewBy sums sums (terms_along links recipes p)
none_along links recipes [] sums none = grew_none sums
none_along links recipes (a ∷ p) sums none = absurd (omega (arith, none))

-- ---- twice the path

-- where all sums were 0 and are 0 again after -2 for a path and these terms, the terms add up to twice the path
pub twice : (old mid new : List Sum) (terms : List Term) (number : ℕ) → others old ≡ 0 → others new ≡ 0 → GrewBy old mid (record { coef = negsuc 1; path = number } ∷ []) → GrewBy mid new terms
    → (k : ℕ) → sum_at terms k ≡ (if k == number then pos 2 else pos 0)
unfolding sum_at
twice old mid new terms number before after less added k =
    let first = less k in
    let second = added k in
    let from : sum_of old k ≡ pos 0 = each_zero old k before in
    let to : sum_of new k ≡ pos 0 = each_zero new k after in
    elim (cases_eq k number) [
      | inl e ↦ rw (eq-eqb k number e) (omega (arith, ints, from, to, second, (let here : sum_of mid k ≡ sum_of old k +ℤ (negsuc 1 +ℤ pos 0) = rw (eq-eqb number k (sym e)) at first in here)))
      | inr ne ↦ rw (ne_eqb k number ne) (omega (arith, ints, from, to, second, (let here : sum_of mid k ≡ sum_of old k +ℤ (pos 0 +ℤ pos 0) = rw (ne_eqb number k (λ e. ne (sym e))) at first in here)))
    ]

-- The one assignment with given sums, or none.
use Rattle.std.proofs.Common.{inl, inr, ◌≡◌, ℕ, ◌+◌, ◌-◌, ◌*◌, ◌/◌, ◌%◌, ◌<◌, ◌≤◌, ◌==◌, List, [], ◌∷◌, length, get_or, ℤ, refl, sym, ap, ap₂, ◌∙◌, arith, All, Some, None, ext_get_or}
use Rattle.std.proofs.lemmas.Bool.{eq-eqb, le-ltb, cases_lt, cases_Bool, lt-ltb}
use Rattle.std.proofs.lemmas.List.{get_or-map, length-map, get_or_default}
use Rattle.std.proofs.lemmas.List.Elements.{All-head, All-tail, All-map}
use Rattle.tomo_base.specs.Limits.{delay_limit}
use Rattle.tomo_base.specs.Network.{Network}
use Rattle.tomo_base.specs.Identify.{sum_along, IsAssignment}
use Rattle.tomo_base.specs.Recipes.{gain_of, loss_of}
use Rattle.ident_laws.proofs.Recipes.{recipe_sum}
use Rattle.simple_path.specs.declared.recipe.Term.{Term}
use Rattle.simple_path.specs.Terms.{path_terms, weighted_by}
use Rattle.plan_form.specs.Good.{AreGoodRecipes}
use Rattle.plan_form.proofs.Built.{weighted_terms}
use Rattle.link_solver.specs.declared.answer.Why.{Why}
use Rattle.link_solver.specs.declared.answer.Answer.TheVariants.{Solved, Link, Path}
use Rattle.link_solver.specs.Laws.{OneOrNone}
use Rattle.link_solver.specs.Verdict.{given, gain, loss, why_not, half_of, halves, AllHaveDelays, HasSums}

-- terms weigh the same where their paths do
same_weighted_by : (w : ℤ → ℕ) (f h : ℕ → ℕ) (n : ℕ) (ts : List Term) → ((k : ℕ) → k < n → f k ≡ h k) → All (λ t. t.path < n) ts → weighted_by w f ts ≡ weighted_by w h ts
unfolding weighted_by
same_weighted_by w f h n [] same within = refl
same_weighted_by w f h n (t ∷ ts) same within = ap₂ (λ a b. w t.coef * a + b) (same t.path (All-head (λ (t : Term). t.path < n) t ts within)) (same_weighted_by w f h n ts same (All-tail (λ (t : Term). t.path < n) t ts within))

-- a gain that is a loss and twice a delay is not refused
fits : (a l x : ℕ) → x ≤ delay_limit → a ≡ l + 2 * x → why_not a l ≡ None
fits a l x le e = rw (eq-eqb (a % 2) (l % 2) (even a l x e), le-ltb a l (omega (arith, e)), le-ltb (l + 2 * delay_limit) a (omega (arith, e, le))) refl
  where
    even : (a l x : ℕ) → a ≡ l + 2 * x → a % 2 ≡ l % 2
    even a l x e = omega (arith, e)

-- and the delay is half of what is left
half : (a l x : ℕ) → a ≡ l + 2 * x → (a - l) / 2 ≡ x
half a l x e = omega (arith, e)

-- what is not refused is a delay
small : (a l : ℕ) → why_not a l ≡ None → (a - l) / 2 ≤ delay_limit
small a l none = elim (cases_lt (l + 2 * delay_limit) a) [
  | inl over ↦ elim (cases_Bool (a % 2 == l % 2)) [
    | inl even ↦ absurd (refused (rw (even, le-ltb a l (omega (arith, over)), lt-ltb (l + 2 * delay_limit) a over) at none))
    | inr odd ↦ absurd (refused (rw odd at none))
  ]
  | inr under ↦ omega (arith, under)
]
  where
    refused : {w : Why} → Some w ≡ None → ⊥
    refused e = cc

module _ (g : Network) (paths : List (List ℕ)) (recipes : List (List Term)) (r : AreGoodRecipes g paths recipes) (sums : List ℕ) where
  -- where an assignment has these sums, each recipe gains what it loses and twice the delay of its link
  doubled : (d : List ℕ) → IsAssignment g d → HasSums g paths sums d → (i : ℕ) → i < length recipes → gain sums (get_or recipes i []) ≡ loss sums (get_or recipes i []) + 2 * get_or d i 0
  doubled d is has i lt =
      let terms = get_or recipes i [] in
      let one = r.each i lt in
      let twice = recipe_sum g.links i d (path_terms paths terms) is.one_each (omega (arith, lt, r.one_each)) one.recipe in
      let up = same_weighted_by gain_of (λ k. sum_along g d (get_or paths k [])) (given sums) (length paths) terms has one.names in
      let down = same_weighted_by loss_of (λ k. sum_along g d (get_or paths k [])) (given sums) (length paths) terms has one.names in
      sym up ∙ (sym (weighted_terms gain_of (sum_along g d) paths terms) ∙ (twice ∙ ap (λ l. l + 2 * get_or d i 0) (weighted_terms loss_of (sum_along g d) paths terms ∙ down)))

  -- so no link refuses, and it is the list of the halves
  only : (d : List ℕ) → IsAssignment g d → HasSums g paths sums d → AllHaveDelays sums recipes × (halves sums recipes ≡ d)
  only d is has = (
    (λ i x lt. let at : get_or recipes i x ≡ get_or recipes i [] = get_or_default recipes i x [] lt in
        let low : get_or d i 0 ≤ delay_limit = is.in_range i 0 (omega (arith, lt, r.one_each, is.one_each)) in
        rw at (fits _ _ _ low (doubled d is has i lt))),
    ext_get_or 0 (halves sums recipes) d (length-map recipes (half_of sums) ∙ (r.one_each ∙ sym is.one_each)) (λ i lt.
        let below : i < length recipes = omega (arith, lt, length-map recipes (half_of sums)) in
        get_or-map (half_of sums) recipes i [] 0 below ∙ half _ _ _ (doubled d is has i below)),
  )

  -- where no link refuses, the halves are an assignment
  pub halves_fit : AllHaveDelays sums recipes → IsAssignment g (halves sums recipes)
  halves_fit all = record {
    one_each = length-map recipes (half_of sums) ∙ r.one_each;
    in_range = All-map (λ x. x ≤ delay_limit) (half_of sums) recipes (λ i x lt. small (gain sums (get_or recipes i x)) (loss sums (get_or recipes i x)) (all i x lt));
  }

-- a verdict means what it says
pub one_or_none : OneOrNone
one_or_none g paths recipes sums out Solved r v = record {
  assignment = rw v.2 (halves_fit g paths recipes r sums v.0);
  sums_along = rw v.2 v.1;
  only = λ e is has. sym (v.2 ∙ (only g paths recipes r sums e is has).1);
}
one_or_none g paths recipes sums out (Link i why) r v = λ e is has.
    absurd (refused (sym v.here ∙ (only g paths recipes r sums e is has).0 i [] v.within))
  where
    refused : {w : Why} → Some w ≡ None → ⊥
    refused e = cc
one_or_none g paths recipes sums out (Path i) r v = λ e is has.
    v.1.here (ap (λ d. sum_along g d (get_or paths i [])) (only g paths recipes r sums e is has).1 ∙ has i v.1.within)

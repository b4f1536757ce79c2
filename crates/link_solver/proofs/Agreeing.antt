-- Along each path of a tied plan the halves have the given sum, whatever the sums are.
use Rattle.std.proofs.Common.{inl, inr, ◌≡◌, ℕ, ◌+◌, ◌-◌, ◌*◌, ◌/◌, ◌%◌, ◌<◌, ◌==◌, List, [], ◌∷◌, length, get_or, IsTrue, refl, sym, ap, ◌∙◌, arith, All, Some, None}
use Rattle.std.proofs.lemmas.Bool.{cases_lt, cases_Bool, lt-ltb, eqb-true}
use Rattle.std.proofs.lemmas.List.{get_or-map, length-map, get_or_past}
use Rattle.tomo_base.specs.Network.{Network, linked, IsGraph}
use Rattle.tomo_base.specs.Table.{JoinsAt}
use Rattle.tomo_base.specs.Walks.{StepsFrom, IsWalk}
use Rattle.tomo_base.specs.Identify.{sum_from, sum_over, delay_between}
use Rattle.tomo_base.specs.Recipes.{gain_of, loss_of}
use Rattle.simple_path.specs.declared.recipe.Term.{Term}
use Rattle.simple_path.specs.Terms.{weighted_by}
use Rattle.simple_path.proofs.Along.{one_delay, place_below}
use Rattle.plan_form.specs.Good.{AreGoodRecipes}
use Rattle.plan_form.specs.Tied.{place_between, recipe_between, AreTied}
use Rattle.plan_form.proofs.Tied.{place_joins, weighted_along, tied_balances}
use Rattle.link_solver.specs.declared.answer.Why.{Why}
use Rattle.link_solver.specs.declared.answer.Answer.TheVariants.{Solved, Link, Path}
use Rattle.link_solver.specs.Laws.{TiedNamesNoPath}
use Rattle.link_solver.specs.Verdict.{given, gain, loss, why_not, half_of, halves, AllHaveDelays, HasSum}

-- a link that has a delay gains what it loses and twice that
even_gain : (a l : ℕ) → why_not a l ≡ None → a ≡ l + 2 * ((a - l) / 2)
even_gain a l none = elim (cases_Bool (a % 2 == l % 2)) [
  | inr odd ↦ absurd (refused (rw odd at none))
  | inl even ↦ elim (cases_lt a l) [
    | inl lt ↦ absurd (refused (rw (even, lt-ltb a l lt) at none))
    | inr le ↦ (let same : a % 2 ≡ l % 2 = eqb-true (a % 2) (l % 2) even in omega (arith, le, same))
  ]
]
  where
    refused : {w : Why} → Some w ≡ None → ⊥
    refused e = cc

-- the terms of good recipes name paths
pub names_paths : (g : Network) (paths : List (List ℕ)) (recipes : List (List Term)) → AreGoodRecipes g paths recipes → (i : ℕ) → All (λ t. t.path < length paths) (get_or recipes i [])
names_paths g paths recipes good i = elim (cases_lt i (length recipes)) [
  | inl lt ↦ (good.each i lt).names
  | inr ge ↦ (λ k d l. let none : length (get_or recipes i []) ≡ 0 = ap (λ ts. length ts) (get_or_past recipes i [] ge) in absurd (omega (arith, l, none)))
]

module _ (g : Network) (paths : List (List ℕ)) (recipes : List (List Term)) (graph : IsGraph g) (good : AreGoodRecipes g paths recipes) (sums : List ℕ) (all : AllHaveDelays sums recipes) where
  -- what the recipe of the link between two nodes gains and loses
  abbrev gained : ℕ → ℕ → ℕ
  gained x y = weighted_by gain_of (given sums) (recipe_between g.links recipes x y)

  abbrev lost : ℕ → ℕ → ℕ
  lost x y = weighted_by loss_of (given sums) (recipe_between g.links recipes x y)

  -- and its half
  abbrev delay : ℕ → ℕ → ℕ
  delay x y = delay_between g.links (halves sums recipes) x y

  -- over one link
  one_step : (x y : ℕ) → IsTrue (linked g x y) → gained x y ≡ lost x y + 2 * delay x y
  one_step x y joined =
      let e = place_between g.links x y in
      let at : JoinsAt g.links e x y = place_joins g.links x y joined in
      let lt : e < length recipes = omega (arith, place_below g.links e x y at, good.one_each) in
      let size : length (halves sums recipes) ≡ length recipes = length-map recipes (half_of sums) in
      let half : delay x y ≡ half_of sums (get_or recipes e []) = sym (one_delay g.nodes g.links (halves sums recipes) e x y 0 graph at (omega (arith, lt, size))) ∙ get_or-map (half_of sums) recipes e [] 0 lt in
      let even = even_gain (gain sums (get_or recipes e [])) (loss sums (get_or recipes e [])) (all e [] lt) in
      omega (arith, half, even)

  -- over a walk
  all_steps : (x : ℕ) (p : List ℕ) → StepsFrom g x p → sum_from gained x p ≡ sum_from lost x p + 2 * sum_from delay x p
  unfolding sum_from
  all_steps x [] steps = refl
  all_steps x (y ∷ p) steps = omega (arith, one_step x y steps.0, all_steps y p steps.1)

  along_walk : (p : List ℕ) → IsWalk g p → sum_over gained p ≡ sum_over lost p + 2 * sum_over delay p
  along_walk [] walk = refl
  along_walk (x ∷ p) walk = all_steps x p walk

  -- so the halves have the sum that is given for the path
  pub agrees : AreTied g.links paths recipes → (i : ℕ) → i < length paths → IsWalk g (get_or paths i []) → HasSum g paths sums (halves sums recipes) i
  agrees tied i lt walk =
      let balance = tied_balances (length paths) g.links paths recipes (names_paths g paths recipes good) tied refl i lt (given sums) in
      let steps = along_walk (get_or paths i []) walk in
      omega (arith, balance, steps, weighted_along gain_of (given sums) g.links recipes (get_or paths i []), weighted_along loss_of (given sums) g.links recipes (get_or paths i []))

-- a verdict over good and tied recipes names no path
pub tied_names_no_path : TiedNamesNoPath
tied_names_no_path g paths recipes sums out Solved graph walks good tied v = tt
tied_names_no_path g paths recipes sums out (Link i why) graph walks good tied v = tt
tied_names_no_path g paths recipes sums out (Path i) graph walks good tied v = v.1.here (agrees g paths recipes graph good sums v.0 tied i v.1.within (walks i v.1.within))

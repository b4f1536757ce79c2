-- Good recipes are recipes over the paths of the plan.
use Rattle.std.proofs.Common.{ℕ, ℤ, ◌<◌, List, [], ◌∷◌, length, get_or, All, Contains, arith}
use Rattle.std.proofs.lemmas.List.Elements.{All-cons, All-tail, Contains-get_or}
use Rattle.tomo_base.specs.Network.{Network}
use Rattle.tomo_base.specs.Recipes.{HasRecipes}
use Rattle.simple_path.specs.declared.recipe.Term.{Term}
use Rattle.simple_path.specs.Terms.{path_terms}
use Rattle.plan_form.specs.Good.{AreGoodRecipes, IsGoodRecipe}

-- terms over paths of a list have these paths
terms_in : (paths : List (List ℕ)) (terms : List Term) → All (λ t. t.path < length paths) terms → All (λ t. Contains paths t.1) (path_terms paths terms)
terms_in paths [] each = λ k d l. absurd (omega (arith, l))
terms_in paths (t ∷ ts) each = All-cons (λ (u : ℤ × List ℕ). Contains paths u.1) (t.coef, get_or paths t.path []) (path_terms paths ts) (Contains-get_or paths t.path [] (each 0 t (omega arith))) (terms_in paths ts (All-tail (λ (u : Term). u.path < length paths) t ts each))

-- where all links have good recipes, each has a recipe over the paths
pub good_recipes_are : (g : Network) (paths : List (List ℕ)) (recipes : List (List Term)) → AreGoodRecipes g paths recipes → HasRecipes g paths
good_recipes_are g paths recipes good = λ i l.
    let one : IsGoodRecipe g paths i (get_or recipes i []) = good.each i (omega (arith, l, good.one_each)) in
    (path_terms paths (get_or recipes i []), terms_in paths (get_or recipes i []) one.names, one.recipe)

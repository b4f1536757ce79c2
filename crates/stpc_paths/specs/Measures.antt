-- As many paths as links, and a recipe for each link over them.
use Rattle.std.specs.Prelude.{ℕ, ◌≡◌, ◌≢◌, ◌<◌, ◌≤◌, Bool, List, [], length, reverse, All, AllPairs, slice_index_or}
use Rattle.tomo_base.specs.Network.{Network}
use Rattle.tomo_base.specs.Identify.{IsMonitorPath}
use Rattle.tomo_base.specs.Recipes.{gain_of, loss_of, IsRecipe}
use Rattle.simple_path.specs.declared.recipe.Term.{Term}
use Rattle.simple_path.specs.Terms.{path_terms, weighted_by}
use Rattle.cross_links.specs.CrossRecipe.{IsCrossCoefficient}
use Rattle.plan_form.specs.Tied.{AreTied}

-- a recipe of link i of at most seven terms over paths of the pool, with the coefficients 2, 1 and -1, of which those above zero add up to at most 4, and those below to at least -4
pub record IsTreeRecipe (g : Network) (pool : List (List ℕ)) (i : ℕ) (terms : List Term) : Type 0 where
  pub names : All (λ t. t.path < length pool) terms
  pub few : length terms ≤ 7
  pub coefficients : All (λ t. IsCrossCoefficient t.coef) terms
  pub few_gains : weighted_by gain_of (λ k. 1) terms ≤ 4
  pub few_losses : weighted_by loss_of (λ k. 1) terms ≤ 4
  pub recipe : IsRecipe g.links i (path_terms pool terms)

-- no two of the paths are equal, in either direction
abbrev pub DifferBothWays : List (List ℕ) → Type 0
DifferBothWays paths = AllPairs (λ p q. (p ≢ q) × (p ≢ reverse q)) paths

-- as many monitor paths as links, all different, and such a recipe for each link; and along each path the recipes of its links add up to twice the path
pub record AreTreeMeasures (g : Network) (m : ℕ → Bool) (pool : List (List ℕ)) (recipes : List (List Term)) : Type 0 where
  pub paths : All (IsMonitorPath g m) pool
  pub one_path : length pool ≡ length g.links
  pub once : DifferBothWays pool
  pub one_recipe : length recipes ≡ length g.links
  pub each : (i : ℕ) → i < length recipes → IsTreeRecipe g pool i (slice_index_or recipes i [])
  pub tied : AreTied g.links pool recipes

-- When a plan is good for a topology.
use Rattle.std.specs.Prelude.{ℕ, ◌≡◌, ◌<◌, ◌≤◌, Bool, false, IsTrue, List, [], ◌∷◌, length, All, AllPairs, slice_index_or}
use Rattle.std.specs.List.Sorted.{IsStrictlyIncreasing, IsStrictlySortedBy}
use Rattle.tomo_base.specs.Network.{Network}
use Rattle.tomo_base.specs.Sets.{has, size, outside, Avoids}
use Rattle.tomo_base.specs.Walks.{end_of}
use Rattle.tomo_base.specs.Identify.{IsMonitorPath}
use Rattle.tomo_base.specs.Recipes.{IsRecipe}
use Rattle.tomo_base.specs.Pockets.{need_of}
use Rattle.simple_path.specs.declared.recipe.Term.{Term}
use Rattle.plan_form.specs.Parts.{PlanPocket, PlanParts}
use Rattle.simple_path.specs.Terms.{path_terms}
use Rattle.plan_form.specs.Order.{path_cmp}

-- monitors are nodes, ascending
pub record AreGoodMonitors (g : Network) (monitors : List ℕ) : Type 0 where
  pub nodes : All (λ v. v < g.nodes) monitors
  pub ascending : IsStrictlyIncreasing monitors

-- forced nodes are nodes, ascending, and each is a monitor
pub record AreGoodForced (g : Network) (monitors forced : List ℕ) : Type 0 where
  pub nodes : All (λ v. v < g.nodes) forced
  pub ascending : IsStrictlyIncreasing forced
  pub are_monitors : All (λ v. IsTrue (has monitors v)) forced

-- barred nodes are nodes, ascending, and none is forced or a monitor
pub record AreGoodBarred (g : Network) (forced monitors barred : List ℕ) : Type 0 where
  pub nodes : All (λ v. v < g.nodes) barred
  pub ascending : IsStrictlyIncreasing barred
  pub unforced : All (λ v. has forced v ≡ false) barred
  pub no_monitors : All (λ v. has monitors v ≡ false) barred

-- a pocket has ascending nodes, at most two outside neighbours, and its need
pub record IsGoodPocket (g : Network) (p : PlanPocket) : Type 0 where
  pub nodes : All (λ v. v < g.nodes) p.nodes
  pub ascending : IsStrictlyIncreasing p.nodes
  pub few : size g (outside g (has p.nodes)) ≤ 2
  pub need : p.need ≡ need_of g (has p.nodes)

-- such pockets, none of which holds a forced node, and no two of which share a node
pub record AreGoodPockets (g : Network) (forced : List ℕ) (pockets : List PlanPocket) : Type 0 where
  pub each : All (IsGoodPocket g) pockets
  pub free : All (λ p. Avoids g (has p.nodes) (has forced)) pockets
  pub disjoint : AllPairs (λ p q. Avoids g (has p.nodes) (has q.nodes)) pockets

-- the first node is less than the last
abbrev pub EndsAscend : List ℕ → Type 0
EndsAscend [] = ⊥
EndsAscend (a ∷ p) = a < end_of a p

-- monitor paths with their lower ends first, in lexicographic order and all different
pub record AreGoodPaths (g : Network) (m : ℕ → Bool) (paths : List (List ℕ)) : Type 0 where
  pub each : All (IsMonitorPath g m) paths
  pub turned : All EndsAscend paths
  pub ascending : IsStrictlySortedBy path_cmp paths

-- the terms name paths, ascending; counted with the coefficients link i occurs twice in sum, and each other link zero times
pub record IsGoodRecipe (g : Network) (paths : List (List ℕ)) (i : ℕ) (terms : List Term) : Type 0 where
  pub names : All (λ t. t.path < length paths) terms
  pub ascending : AllPairs (λ t u. t.path < u.path) terms
  pub recipe : IsRecipe g.links i (path_terms paths terms)

-- one such recipe for each link
pub record AreGoodRecipes (g : Network) (paths : List (List ℕ)) (recipes : List (List Term)) : Type 0 where
  pub one_each : length recipes ≡ length g.links
  pub each : (i : ℕ) → i < length recipes → IsGoodRecipe g paths i (slice_index_or recipes i [])

-- the plan has the topology's names and links, and all its parts are good
pub record IsGoodPlan (given : List (List ℕ)) (g : Network) (p : PlanParts) : Type 0 where
  pub names : p.names ≡ given
  pub links : p.links ≡ g.links
  pub forced : AreGoodForced g p.monitors p.forced
  pub barred : AreGoodBarred g p.forced p.monitors p.barred
  pub monitors : AreGoodMonitors g p.monitors
  pub pockets : AreGoodPockets g p.forced p.pockets
  pub paths : AreGoodPaths g (has p.monitors) p.paths
  pub recipes : AreGoodRecipes g p.paths p.recipes

-- the pockets' sets of nodes
abbrev pub pocket_sets : List PlanPocket → List (List ℕ)
pocket_sets [] = []
pocket_sets (p ∷ ps) = p.nodes ∷ pocket_sets ps

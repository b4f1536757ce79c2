-- What a plan can be made of.
use Rattle.std.specs.Prelude.{ℕ, ◌≡◌, ◌<◌, ◌≤◌, Bool, List, [], length, map, All, slice_index_or}
use Rattle.std.specs.List.Sorted.{IsStrictlySortedBy}
use Rattle.tomo_base.specs.Network.{Network}
use Rattle.tomo_base.specs.Sets.{has}
use Rattle.tomo_base.specs.Identify.{IsMonitorPath}
use Rattle.tomo_base.specs.Recipes.{IsRecipe}
use Rattle.tomo_base.specs.declared.pocket.Pocket.{Pocket}
use Rattle.topology.specs.Topology.{Topo}
use Rattle.simple_path.specs.declared.recipe.Term.{Term}
use Rattle.simple_path.specs.Terms.{path_terms}
use Rattle.plan_form.specs.Parts.{PlanPocket, PlanParts, IsCoefficient, IsWellFormed}
use Rattle.plan_form.specs.Order.{path_cmp}
use Rattle.plan_form.specs.Building.{IsBuilt, IsRewritten}
use Rattle.plan_form.specs.Good.{AreGoodPaths, IsGoodRecipe}

-- 1 to 16 terms, with coefficients from -4 to 4 that are not 0
abbrev pub IsShort : List Term → Type 0
IsShort terms = (0 < length terms) × (length terms ≤ 16) × All (λ t. IsCoefficient t.coef) terms

-- the recipes are over paths of the pool; and however the coefficients of one path and of its reverse are added up, few and small ones are left
pub record IsArrangeable (pool : List (List ℕ)) (recipes : List (List Term)) : Type 0 where
  pub names : (i : ℕ) → i < length recipes → All (λ t. t.path < length pool) (slice_index_or recipes i [])
  pub short : (paths : List (List ℕ)) (i : ℕ) (new : List Term) → IsStrictlySortedBy path_cmp paths → i < length recipes →
      IsRewritten pool paths (slice_index_or recipes i []) new → IsShort new

-- the pool has monitor paths, and there is a recipe for each link, over paths of the pool, that can be put in order
pub record IsBuildable (g : Network) (m : ℕ → Bool) (pool : List (List ℕ)) (recipes : List (List Term)) : Type 0 where
  pub paths : All (IsMonitorPath g m) pool
  pub one_each : length recipes ≡ length g.links
  pub arranges : IsArrangeable pool recipes

-- a pocket as it stands in a plan
abbrev pub as_part : Pocket → PlanPocket
as_part k = record { need = k.need; nodes = k.nodes }

-- the plan has the names and links of the topology, the given forced nodes, barred nodes, monitors and pockets, and paths and recipes built of those given
pub record IsBuiltOf (t : Topo) (must never m : List ℕ) (homes : List Pocket) (pool : List (List ℕ)) (old : List (List Term)) (p : PlanParts) : Type 0 where
  pub formed : IsWellFormed p
  pub names : p.names ≡ t.names
  pub links : p.links ≡ t.graph.links
  pub forced : p.forced ≡ must
  pub barred : p.barred ≡ never
  pub monitors : p.monitors ≡ m
  pub pockets : p.pockets ≡ map as_part homes
  pub built : IsBuilt pool old p.paths p.recipes
  pub few : length p.paths ≤ length pool
  pub paths : AreGoodPaths t.graph (has m) p.paths
  pub recipes : (i : ℕ) → i < length old → IsRecipe t.graph.links i (path_terms pool (slice_index_or old i [])) → IsGoodRecipe t.graph p.paths i (slice_index_or p.recipes i [])

-- The first fault of a plan. Places are counted from 0.
use Rattle.std.specs.Prelude.{ℕ, ◌≡◌, ◌-◌, ◌<◌, ◌⊎◌, Bool, false, IsTrue, List, [], length, slice_get, slice_index, slice_index_or}
use Rattle.std.specs.declared.cmp.Ordering.TheVariants.{Less}
use Rattle.tomo_base.specs.Network.{Network}
use Rattle.tomo_base.specs.Sets.{has, Avoids}
use Rattle.tomo_base.specs.Identify.{IsMonitorPath}
use Rattle.topology.specs.Topology.{Topo}
use Rattle.simple_path.specs.declared.recipe.Term.{Term}
use Rattle.plan_form.specs.Parts.{PlanPocket, PlanParts}
use Rattle.plan_form.specs.Order.{path_cmp}
use Rattle.plan_form.specs.Good.{AreGoodForced, AreGoodBarred, AreGoodMonitors, IsGoodPocket, AreGoodPockets, EndsAscend, AreGoodPaths, IsGoodRecipe}
use Rattle.cert_check.specs.declared.report.Fault.{Fault}
use Rattle.cert_check.specs.declared.report.Fault.TheVariants.{Names, Links, Must, Not, Monitor, Pocket, Path, Recipe}

-- i is the least number without the property
abbrev pub IsFirstWithout : (ℕ → Type 0) → ℕ → Type 0
IsFirstWithout P i = ((j : ℕ) → j < i → P j) × (P i → ⊥)

-- i is the first place of a list of n items without the property
abbrev pub IsFirstBad : ℕ → (ℕ → Type 0) → ℕ → Type 0
IsFirstBad n P i = (i < n) × IsFirstWithout P i

-- all places of a list of n items have the property
abbrev pub AllPlaces : ℕ → (ℕ → Type 0) → Type 0
AllPlaces n P = (j : ℕ) → j < n → P j

-- the lists have the same item at the place, or have both ended
abbrev pub AgreeAt : {A : Type 0} → List A → List A → ℕ → Type 0
AgreeAt xs ys i = slice_get xs i ≡ slice_get ys i

-- the number at the place is below n, and greater than that before it
pub record AscendsAt (n : ℕ) (numbers : List ℕ) (i : ℕ) : Type 0 where
  pub below : slice_index numbers i < n
  pub above : 0 < i → slice_index numbers (i - 1) < slice_index numbers i

-- the number at the place ascends so, and is in the set or not, as is asked
pub record IsChosenAt (n : ℕ) (set : ℕ → Bool) (inside : Bool) (numbers : List ℕ) (i : ℕ) : Type 0 where
  pub ascends : AscendsAt n numbers i
  pub as_asked : set (slice_index numbers i) ≡ inside

-- the forced node at the place is a node, greater than that before it, and a monitor
pub record IsGoodForcedAt (n : ℕ) (monitors forced : List ℕ) (i : ℕ) : Type 0 where
  pub ascends : AscendsAt n forced i
  pub monitor : IsTrue (has monitors (slice_index forced i))

-- the barred node at the place is a node, greater than that before it, and neither forced nor a monitor
pub record IsGoodBarredAt (n : ℕ) (forced monitors barred : List ℕ) (i : ℕ) : Type 0 where
  pub ascends : AscendsAt n barred i
  pub unforced : has forced (slice_index barred i) ≡ false
  pub no_monitor : has monitors (slice_index barred i) ≡ false

-- the pocket at a place
abbrev pub pocket_at : List PlanPocket → ℕ → PlanPocket
pocket_at pockets i = slice_index_or pockets i (record { need = 0; nodes = [] })

-- the pocket at the place is good, holds no forced node, and shares no node with an earlier one
pub record IsGoodPocketAt (g : Network) (forced : List ℕ) (pockets : List PlanPocket) (i : ℕ) : Type 0 where
  pub good : IsGoodPocket g (pocket_at pockets i)
  pub free : Avoids g (has (pocket_at pockets i).nodes) (has forced)
  pub apart : (j : ℕ) → j < i → Avoids g (has (pocket_at pockets j).nodes) (has (pocket_at pockets i).nodes)

-- the path at a place
abbrev pub path_at : List (List ℕ) → ℕ → List ℕ
path_at paths i = slice_index_or paths i []

-- the path at the place is a monitor path with its lower end first, and lexicographically greater than the path before it
pub record IsGoodPathAt (g : Network) (m : ℕ → Bool) (paths : List (List ℕ)) (i : ℕ) : Type 0 where
  pub path : IsMonitorPath g m (path_at paths i)
  pub turned : EndsAscend (path_at paths i)
  pub above : 0 < i → path_cmp (path_at paths (i - 1)) (path_at paths i) ≡ Less

-- a link and a recipe have this number, and it is a good recipe for the link
pub record IsGoodRecipeAt (g : Network) (paths : List (List ℕ)) (recipes : List (List Term)) (i : ℕ) : Type 0 where
  pub is_link : i < length g.links
  pub stands : i < length recipes
  pub good : IsGoodRecipe g paths i (slice_index_or recipes i [])

-- the plan has the topology's names and links
pub record IsPlanOf (t : Topo) (p : PlanParts) : Type 0 where
  pub names : p.names ≡ t.names
  pub links : p.links ≡ t.graph.links

-- the plan is one of the topology, and its forced nodes, barred nodes and monitors are good
pub record HasGoodNodes (t : Topo) (p : PlanParts) : Type 0 where
  pub of : IsPlanOf t p
  pub forced : AreGoodForced t.graph p.monitors p.forced
  pub barred : AreGoodBarred t.graph p.forced p.monitors p.barred
  pub monitors : AreGoodMonitors t.graph p.monitors

-- the first fault of a plan: what stands before it is good
abbrev pub IsFault : Topo → PlanParts → Fault → Type 0
IsFault t p (Names i) = IsFirstWithout (AgreeAt p.names t.names) i
IsFault t p (Links i) = (p.names ≡ t.names) × IsFirstWithout (AgreeAt p.links t.graph.links) i
IsFault t p (Must i) = IsPlanOf t p × IsFirstBad (length p.forced) (IsGoodForcedAt t.graph.nodes p.monitors p.forced) i
IsFault t p (Not i) = IsPlanOf t p × AreGoodForced t.graph p.monitors p.forced × IsFirstBad (length p.barred) (IsGoodBarredAt t.graph.nodes p.forced p.monitors p.barred) i
IsFault t p (Monitor i) = IsPlanOf t p × AreGoodForced t.graph p.monitors p.forced × AreGoodBarred t.graph p.forced p.monitors p.barred ×
    IsFirstBad (length p.monitors) (AscendsAt t.graph.nodes p.monitors) i
IsFault t p (Pocket i) = HasGoodNodes t p × IsFirstBad (length p.pockets) (IsGoodPocketAt t.graph p.forced p.pockets) i
IsFault t p (Path i) = HasGoodNodes t p × AreGoodPockets t.graph p.forced p.pockets × IsFirstBad (length p.paths) (IsGoodPathAt t.graph (has p.monitors) p.paths) i
IsFault t p (Recipe i) = HasGoodNodes t p × AreGoodPockets t.graph p.forced p.pockets × AreGoodPaths t.graph (has p.monitors) p.paths ×
    ((i < length t.graph.links) ⊎ (i < length p.recipes)) × IsFirstWithout (IsGoodRecipeAt t.graph p.paths p.recipes) i

-- What is promised of a plan: its parts are good, its monitors are the lowest set, its paths determine every link's delay, and its pockets show that no smaller set does.
use Rattle.std.specs.Prelude.{ℕ, ◌≡◌, ◌+◌, ◌*◌, ◌^◌, ◌<◌, ◌≤◌, nat_lt, not, ◌&&◌, Bool, List, [], length, slice_index_or, ⊤}
use Rattle.tomo_base.specs.Network.{Network}
use Rattle.tomo_base.specs.Sets.{has, size, nothing, IsInside}
use Rattle.tomo_base.specs.Identify.{Identified, Identifies}
use Rattle.tomo_base.specs.Lowest.{IsLowest, IsAllowed, IsLowestAllowed}
use Rattle.tomo_base.specs.Pockets.{Shows, AreHomePockets}
use Rattle.mmp_place.specs.Rule.{IsPlacedByRule}
use Rattle.judge.specs.Verdict.{IsFoundBad}
use Rattle.topology.specs.declared.choice.Choice.{Choice}
use Rattle.plan_form.specs.Parts.{PlanParts, IsWellFormed}
use Rattle.plan_form.specs.PlanRows.{row_count}
use Rattle.plan_form.specs.Good.{IsGoodPlan, pocket_sets}
use Rattle.plan_form.specs.Tied.{AreTied}
use Rattle.planner.specs.Measures.{NamesPath}
use Rattle.planner.specs.declared.plans.Made.{Made}
use Rattle.planner.specs.declared.plans.Made.TheVariants.{Plan, Impossible}

-- what is promised of every plan
pub record IsSoundPlan (given : List (List ℕ)) (g : Network) (p : PlanParts) : Type 0 where
  -- the plan can be spelled
  pub formed : IsWellFormed p
  -- the plan has the topology's names and links, and all its parts are good
  pub good : IsGoodPlan given g p
  -- as many paths as links, so at most four for each, and each path is named by a recipe
  pub one_path : length p.paths ≡ length p.links
  pub few_paths : length p.paths ≤ 4 * length p.links
  pub none_idle : (k : ℕ) → k < length p.paths → NamesPath p.recipes k
  -- at most seven paths in each recipe
  pub few_terms : (i : ℕ) → i < length p.recipes → length (slice_index_or p.recipes i []) ≤ 7
  -- along each path the recipes of its links add up to twice the path
  pub tied : AreTied p.links p.paths p.recipes
  -- the paths determine every link's delay
  pub identified : Identified g p.paths

-- what is promised of a plan for a topology alone
pub record IsPlanned (given : List (List ℕ)) (g : Network) (p : PlanParts) : Type 0 where
  pub sound : IsSoundPlan given g p
  -- no node is forced or barred
  pub unforced : p.forced ≡ []
  pub unbarred : p.barred ≡ []
  -- no identifying set has, for any h, fewer nodes numbered h or above
  pub lowest : IsLowest g (has p.monitors)
  -- the monitors are what the placement rule places
  pub by_rule : IsPlacedByRule g (has p.monitors)
  -- the pockets are the home pockets of the monitors
  pub homes : AreHomePockets g (has p.monitors) nothing (pocket_sets p.pockets)
  -- the pockets show that so many monitors are needed
  pub shown : Shows g (pocket_sets p.pockets) (length p.monitors)
  -- every set that identifies, even by every simple path, has at least as many nodes
  pub least : (s : ℕ → Bool) → Identifies g s → length p.monitors ≤ size g s

-- what is promised of a plan for given monitors: it has no pockets
pub record IsPlanFor (given : List (List ℕ)) (g : Network) (m : List ℕ) (p : PlanParts) : Type 0 where
  pub sound : IsSoundPlan given g p
  pub unforced : p.forced ≡ []
  pub unbarred : p.barred ≡ []
  pub monitors : p.monitors ≡ m
  pub no_pockets : p.pockets ≡ []

-- what is promised of a plan under a choice
pub record IsPlannedWith (given : List (List ℕ)) (g : Network) (choice : Choice) (p : PlanParts) : Type 0 where
  pub sound : IsSoundPlan given g p
  -- the forced and the barred nodes are those chosen
  pub forced : p.forced ≡ choice.must
  pub barred : p.barred ≡ choice.not
  -- of the identifying sets that hold the forced nodes and no barred one, none has, for any h, fewer nodes numbered h or above
  pub lowest : IsLowestAllowed g (Identifies g) (λ v. v) (has choice.must) (has choice.not) (has p.monitors)
  -- the pockets are the home pockets of the monitors that are not forced
  pub homes : AreHomePockets g (has p.monitors) (has choice.must) (pocket_sets p.pockets)
  -- the pockets show that so many monitors are needed as there are beside the forced nodes
  pub needed : ℕ
  pub shown : Shows g (pocket_sets p.pockets) needed
  pub beside_forced : length p.forced + needed ≡ length p.monitors
  -- every set that identifies and holds the forced nodes has at least as many nodes
  pub least : (s : ℕ → Bool) → Identifies g s → IsInside g (has choice.must) s → length p.monitors ≤ size g s

-- the nodes that are not barred
abbrev pub unbarred : Network → Choice → ℕ → Bool
unbarred g choice v = nat_lt v g.nodes && not (has choice.not v)

-- the nodes that are not barred do not identify: the list is their bad set, and no set that is allowed identifies
pub record IsImpossible (g : Network) (choice : Choice) (bad : List ℕ) : Type 0 where
  pub found : IsFoundBad g (unbarred g choice) bad
  pub none : (s : ℕ → Bool) → IsAllowed g (Identifies g) (has choice.must) (has choice.not) s → ⊥

-- a plan under the choice, or that there is none
abbrev pub IsMadeWith : List (List ℕ) → Network → Choice → Made → Type 0
IsMadeWith given g choice (Plan p) = IsPlannedWith given g choice p
IsMadeWith given g choice (Impossible bad) = IsImpossible g choice bad

-- a plan has fewer than 2^32 rows
abbrev pub HasFewRows : Made → Type 0
HasFewRows (Plan p) = row_count p < 2 ^ 32
HasFewRows (Impossible bad) = ⊤

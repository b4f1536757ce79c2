-- What is reported of a plan.
use Rattle.std.specs.Prelude.{ℕ, ◌≡◌, ◌+◌, ◌≤◌, Bool, length}
use Rattle.tomo_base.specs.Sets.{has, size, IsInside}
use Rattle.tomo_base.specs.Identify.{Identified, Identifies}
use Rattle.tomo_base.specs.Pockets.{needs_of}
use Rattle.topology.specs.Topology.{Topo}
use Rattle.plan_form.specs.Parts.{PlanParts}
use Rattle.plan_form.specs.Good.{IsGoodPlan, pocket_sets}
use Rattle.cert_check.specs.declared.report.Report.{Report}
use Rattle.cert_check.specs.declared.report.Report.TheVariants.{Good, Bad}
use Rattle.cert_check.specs.Faults.{IsFault}

-- the plan is good and its paths identify; it has so many monitors; and its pockets show that every set that identifies and holds the forced nodes has as many nodes as the bound
pub record IsGoodReport (t : Topo) (p : PlanParts) (monitors bound : ℕ) : Type 0 where
  pub good : IsGoodPlan t.names t.graph p
  pub monitors_are : monitors ≡ length p.monitors
  pub bound_is : bound ≡ length p.forced + needs_of t.graph (pocket_sets p.pockets)
  pub within : bound ≤ monitors
  pub identified : Identified t.graph p.paths
  pub least : (s : ℕ → Bool) → Identifies t.graph s → IsInside t.graph (has p.forced) s → bound ≤ size t.graph s

-- either that, or the first fault
abbrev pub IsReport : Topo → PlanParts → Report → Type 0
IsReport t p (Good monitors bound) = IsGoodReport t p monitors bound
IsReport t p (Bad f) = IsFault t p f

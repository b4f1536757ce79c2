-- What holds of the rows of plans.
use Rattle.std.specs.Prelude.{ℕ, ◌≡◌, ◌≢◌, ◌≤◌, List, length}
use Rattle.rows.specs.Rows.{Row, rows_of, text_of}
use Rattle.topology.specs.Topology.{Topo, IsTopology}
use Rattle.plan_form.specs.declared.faults.PlanFault.{PlanFault}
use Rattle.plan_form.specs.declared.faults.PlanFault.TheVariants.{NoMemory}
use Rattle.plan_form.specs.Parts.{PlanParts, IsWellFormed}
use Rattle.plan_form.specs.PlanRows.{plan_rows, AreRowsOf}
use Rattle.plan_form.specs.Reading.{IsFirstPlanFault}
use Rattle.plan_form.specs.Good.{IsGoodPlan}
use Rattle.plan_form.specs.Limits.{IsWithinLimits, text_limit}

-- rows are those of one plan at most, in whatever format
abbrev pub OneReading : Type 0
OneReading = (rows : List Row) (p q : PlanParts) → IsWellFormed p → IsWellFormed q → AreRowsOf rows p → AreRowsOf rows q → p ≡ q

-- the rows of a plan, in whatever format, have no fault but want of memory
abbrev pub PlanHasNoFault : Type 0
PlanHasNoFault = (rows : List Row) (p : PlanParts) (f : PlanFault) → IsWellFormed p → AreRowsOf rows p → IsFirstPlanFault rows f → f ≡ NoMemory

-- rows have at most one first fault apart from want of memory
abbrev pub OneFault : Type 0
OneFault = (rows : List Row) (f g : PlanFault) → IsFirstPlanFault rows f → IsFirstPlanFault rows g → f ≢ NoMemory → g ≢ NoMemory → f ≡ g

-- the plan that stands in the text is p: the text has the rows that are printed of p, which are those of no other plan in whatever format, and have no fault but want of memory
pub record HoldsPlan (text : List ℕ) (p : PlanParts) : Type 0 where
  pub rows : rows_of text ≡ plan_rows p
  pub only : (q : PlanParts) → IsWellFormed q → AreRowsOf (rows_of text) q → q ≡ p
  pub fine : (f : PlanFault) → IsFirstPlanFault (rows_of text) f → f ≡ NoMemory

-- the plan that stands in the printed text is the plan that was printed
abbrev pub PrintedIsReadBack : Type 0
PrintedIsReadBack = (p : PlanParts) → IsWellFormed p → HoldsPlan (text_of (plan_rows p)) p

-- the text of a plan within the limits is short
abbrev pub PrintedIsShort : Type 0
PrintedIsShort = (p : PlanParts) → IsWithinLimits p → length (text_of (plan_rows p)) ≤ text_limit

-- a good plan of a topology, with no more paths than links, is within the limits
abbrev pub GoodIsWithinLimits : Type 0
GoodIsWithinLimits = (t : Topo) (p : PlanParts) → IsTopology t → IsWellFormed p → IsGoodPlan t.names t.graph p → length p.paths ≤ length p.links → IsWithinLimits p

-- What joins the two halves of the headline: what becomes of the text of a plan that was printed.
use Rattle.std.specs.Prelude.{ℕ, ◌≡◌, ◌⊎◌, ◌∷◌, [], List, length, codes, decimal}
use Rattle.rows.specs.Rows.{Row, text_of}
use Rattle.topology.specs.Topology.{Topo}
use Rattle.topology.specs.declared.choice.Choice.{Choice}
use Rattle.plan_form.specs.Parts.{PlanParts}
use Rattle.plan_form.specs.PlanRows.{plan_rows}
use Rattle.plan_form.specs.Good.{IsGoodPlan}
use Rattle.planner.specs.Planned.{IsPlanned, IsPlanFor, IsPlannedWith}
use Rattle.answers.specs.Planning.{IsKept}
use Rattle.answers.specs.Rounds.{NameNoPath}
use Rattle.answers.specs.declared.checked.Checked.{Checked}
use Rattle.answers.specs.declared.status.Status.{Status}
use Rattle.answers.specs.declared.status.Status.TheVariants.{Done}
use Rattle.tomo_run.specs.Machine.{Steps}
use Rattle.tomo_run.specs.Ends.{Ends}
use Rattle.tomo_run.specs.declared.table.PlanTask.TheVariants.{Check, Solve}
use Rattle.tomo_run.specs.declared.machine.Wants.TheVariants.{APlan, Sums}
use Rattle.tomo_run.specs.declared.machine.End.{End}
use Rattle.tomo_run.specs.declared.machine.Next.{Next}
use Rattle.tomo_run.specs.declared.machine.Next.TheVariants.{Ask, Stop}

-- the text of a plan that is good for the topology is taken as this plan, and never refused: its rounds are asked for
abbrev pub PrintedIsTaken : Type 0
PrintedIsTaken = (t : Topo) (p : PlanParts) (name : List ℕ) (next : Next) → IsGoodPlan t.names t.graph p → IsKept p
    → Steps (APlan Solve t) name (text_of (plan_rows p)) next
    → (c : Checked) × (c.topology ≡ t) × (c.plan ≡ p) × (next ≡ Ask (Sums c))

-- the reading ends, and all that is answered is that the plan is good, with the number of its monitors and this bound
abbrev pub IsReportedGood : PlanParts → ℕ → Next → Type 0
IsReportedGood p bound next =
    (end : End) × (next ≡ Stop end) × ((others : List (List ℕ)) (status : Status) (rows : List Row) → Ends others end status rows
    → (status ≡ Done) × (rows ≡ (codes "good" ∷ decimal (length p.monitors) ∷ decimal bound ∷ []) ∷ []))

-- of the text of a plan as promised `check` reports that it is good, with two equal numbers: its pockets show that as many monitors are needed as it has
abbrev pub PrintedIsReportedGood : Type 0
PrintedIsReportedGood = (t : Topo) (p : PlanParts) (name : List ℕ) (next : Next) → IsPlanned t.names t.graph p → IsKept p
    → Steps (APlan Check t) name (text_of (plan_rows p)) next
    → IsReportedGood p (length p.monitors) next

-- so of the text of a plan under a choice, whose forced nodes count as needed
abbrev pub ChosenIsReportedGood : Type 0
ChosenIsReportedGood = (t : Topo) (choice : Choice) (p : PlanParts) (name : List ℕ) (next : Next) → IsPlannedWith t.names t.graph choice p → IsKept p
    → Steps (APlan Check t) name (text_of (plan_rows p)) next
    → IsReportedGood p (length p.monitors) next

-- of the text of a plan for given monitors it reports that it is good, with the bound 0, since it has no pockets
abbrev pub PathsAreReportedGood : Type 0
PathsAreReportedGood = (t : Topo) (monitors : List ℕ) (p : PlanParts) (name : List ℕ) (next : Next)
    → IsPlanFor t.names t.graph monitors p → IsKept p → Steps (APlan Check t) name (text_of (plan_rows p)) next
    → IsReportedGood p 0 next

-- the plan is one that `plan`, with a choice or without, or `paths` prints for the topology
abbrev pub IsPrinted : Topo → PlanParts → Type 0
IsPrinted t p =
    (IsPlanned t.names t.graph p ⊎ (((monitors : List ℕ) × IsPlanFor t.names t.graph monitors p) ⊎ ((choice : Choice) × IsPlannedWith t.names t.graph choice p))) × IsKept p

-- over the text of a plan that was printed `solve` asks for rounds, and refuses none of them for a path
abbrev pub PrintedNamesNoPath : Type 0
PrintedNamesNoPath = (t : Topo) (p : PlanParts) (name : List ℕ) (next : Next) → IsPrinted t p
    → Steps (APlan Solve t) name (text_of (plan_rows p)) next
    → (c : Checked) × (next ≡ Ask (Sums c)) × ((file content : List ℕ) (end : End) (others : List (List ℕ)) (status : Status) (rows : List Row)
    → Steps (Sums c) file content (Stop end) → Ends others end status rows → NameNoPath rows)

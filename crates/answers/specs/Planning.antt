-- What is answered where a plan is made.
use Rattle.std.specs.Prelude.{ℕ, ◌≡◌, ◌≤◌, ◌⊎◌, ◌∷◌, [], List, length, map, codes, slice_index_or}
use Rattle.tomo_base.specs.Sets.{has}
use Rattle.tomo_base.specs.Identify.{Identifies}
use Rattle.rows.specs.Rows.{Row, text_of}
use Rattle.topology.specs.Topology.{Topo}
use Rattle.topology.specs.declared.choice.Choice.{Choice}
use Rattle.plan_form.specs.Parts.{PlanParts}
use Rattle.plan_form.specs.PlanRows.{plan_rows}
use Rattle.plan_form.specs.Laws.{HoldsPlan}
use Rattle.planner.specs.Planned.{IsPlanned, IsPlanFor, IsPlannedWith, IsImpossible}
use Rattle.answers.specs.FileKinds.{limit}
use Rattle.answers.specs.Judging.{TellsBad}
use Rattle.answers.specs.declared.file_kind.FileKind.TheVariants.{PlanFile}
use Rattle.answers.specs.declared.status.Status.{Status}
use Rattle.answers.specs.declared.status.Status.TheVariants.{Done, Negative}

-- the text of the plan's rows holds the plan and no other, and is short enough for the file of a plan
pub record IsKept (p : PlanParts) : Type 0 where
  pub back : HoldsPlan (text_of (plan_rows p)) p
  pub short : length (text_of (plan_rows p)) ≤ limit PlanFile

-- a plan of the topology
abbrev pub Plans : Topo → Status → List Row → Type 0
Plans t status rows = (status ≡ Done) × (p : PlanParts) × IsPlanned t.names t.graph p × IsKept p × (rows ≡ plan_rows p)

-- a plan for the monitors, where they identify every link
abbrev pub PlansFor : Topo → List ℕ → Status → List Row → Type 0
PlansFor t monitors status rows =
    ((status ≡ Done) × Identifies t.graph (has monitors) × (p : PlanParts) × IsPlanFor t.names t.graph monitors p × IsKept p × (rows ≡ plan_rows p)) ⊎ TellsBad t monitors status rows

-- the row where a choice is impossible: nodes by their names
abbrev pub impossible_row : List (List ℕ) → List ℕ → Row
impossible_row names nodes = codes "impossible" ∷ map (λ v. slice_index_or names v []) nodes

-- a plan under the choice, or that there is none: the bad set of all nodes that are not barred is named
abbrev pub PlansWith : Topo → Choice → Status → List Row → Type 0
PlansWith t choice status rows =
    ((status ≡ Done) × (p : PlanParts) × IsPlannedWith t.names t.graph choice p × IsKept p × (rows ≡ plan_rows p))
    ⊎ ((status ≡ Negative) × (bad : List ℕ) × IsImpossible t.graph choice bad × (rows ≡ impossible_row t.names bad ∷ []))

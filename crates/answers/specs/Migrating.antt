-- What is answered where a plan is carried over to the newest format.
use Rattle.std.specs.Prelude.{◌≡◌, List}
use Rattle.rows.specs.Rows.{Row}
use Rattle.plan_form.specs.Parts.{PlanParts}
use Rattle.plan_form.specs.PlanRows.{plan_rows}
use Rattle.answers.specs.declared.status.Status.{Status}
use Rattle.answers.specs.declared.status.Status.TheVariants.{Done}

-- the plan as it stands, in the newest format
abbrev pub Migrates : PlanParts → Status → List Row → Type 0
Migrates p status rows = (status ≡ Done) × (rows ≡ plan_rows p)

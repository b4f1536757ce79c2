-- What is answered of a plan that is checked.
use Rattle.std.specs.Prelude.{◌≡◌, ◌∷◌, [], List, codes, decimal}
use Rattle.rows.specs.Rows.{Row}
use Rattle.topology.specs.Topology.{Topo}
use Rattle.plan_form.specs.Parts.{PlanParts}
use Rattle.cert_check.specs.declared.report.Report.{Report}
use Rattle.cert_check.specs.declared.report.Report.TheVariants.{Good, Bad}
use Rattle.cert_check.specs.Reports.{IsReport}
use Rattle.answers.specs.Refusals.{fault_part, fault_number}
use Rattle.answers.specs.declared.status.Status.{Status}
use Rattle.answers.specs.declared.status.Status.TheVariants.{Done, Negative}

-- a report, as a row and as a status
abbrev pub report_row : Report → Row
report_row (Good monitors bound) = codes "good" ∷ decimal monitors ∷ decimal bound ∷ []
report_row (Bad f) = codes "bad" ∷ fault_part f ∷ decimal (fault_number f) ∷ []

abbrev pub report_status : Report → Status
report_status (Good monitors bound) = Done
report_status (Bad f) = Negative

-- what is reported of a plan for the topology
abbrev pub Reports : Topo → PlanParts → Status → List Row → Type 0
Reports t p status rows = (r : Report) × IsReport t p r × (status ≡ report_status r) × (rows ≡ report_row r ∷ [])

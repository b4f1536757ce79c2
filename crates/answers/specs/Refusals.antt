-- Refusals: one row with the refused word, a reason and a place.
use Rattle.std.specs.Prelude.{ℕ, ◌∷◌, ◌++◌, [], List, codes, decimal, slice_index_or}
use Rattle.rows.specs.Rows.{Row, RowList}
use Rattle.plan_form.specs.declared.faults.PlanFault.{PlanFault}
use Rattle.plan_form.specs.declared.faults.PlanFault.TheVariants as plan_faults
use Rattle.cert_check.specs.declared.report.Fault.{Fault}
use Rattle.cert_check.specs.declared.report.Fault.TheVariants as plan_parts
use Rattle.round_reader.specs.declared.faults.RoundFault.{RoundFault}
use Rattle.round_reader.specs.declared.faults.RoundFault.TheVariants as round_faults
use Rattle.topology.specs.declared.faults.MonFault.{MonFault}
use Rattle.topology.specs.declared.faults.MonFault.TheVariants as mon_faults
use Rattle.topology.specs.declared.faults.ChoiceFault.{ChoiceFault}
use Rattle.topology.specs.declared.faults.ChoiceFault.TheVariants as choice_faults
use Rattle.topology.specs.declared.faults.TopoFault.{TopoFault}
use Rattle.topology.specs.declared.faults.TopoFault.TheVariants.{NoMemory, Width, Name, Loop, Nodes, Links, Few, Apart}

-- closed rows, and none at hand
abbrev pub only : List Row → RowList
only rows = record { closed = rows; current = [] }

-- the one row that refuses a word
abbrev pub refused : List ℕ → List ℕ → List ℕ → RowList
refused word reason place = only ((codes "refused" ∷ word ∷ reason ∷ place ∷ []) ∷ [])

-- why a topology is refused
abbrev pub topology_reason : TopoFault → List ℕ
topology_reason NoMemory = []
topology_reason (Width r) = codes "width"
topology_reason (Name r) = codes "name"
topology_reason (Loop r) = codes "loop"
topology_reason (Nodes r) = codes "nodes"
topology_reason (Links r) = codes "links"
topology_reason (Few n) = codes "few"
topology_reason (Apart v) = codes "apart"

-- where: the row, the number of nodes, or the name of the node
abbrev pub topology_place : List (List ℕ) → TopoFault → List ℕ
topology_place names NoMemory = []
topology_place names (Width r) = decimal r
topology_place names (Name r) = decimal r
topology_place names (Loop r) = decimal r
topology_place names (Nodes r) = decimal r
topology_place names (Links r) = decimal r
topology_place names (Few n) = decimal n
topology_place names (Apart v) = slice_index_or names v []

-- why monitors are refused, and where: the row
abbrev pub monitor_reason : MonFault → List ℕ
monitor_reason mon_faults.NoMemory = []
monitor_reason (mon_faults.Unknown r) = codes "unknown"

abbrev pub monitor_place : MonFault → List ℕ
monitor_place mon_faults.NoMemory = []
monitor_place (mon_faults.Unknown r) = decimal r

-- why a choice is refused, and where: the row
abbrev pub choice_reason : ChoiceFault → List ℕ
choice_reason choice_faults.NoMemory = []
choice_reason (choice_faults.Width r) = codes "width"
choice_reason (choice_faults.Word r) = codes "word"
choice_reason (choice_faults.Unknown r) = codes "unknown"
choice_reason (choice_faults.Clash r) = codes "clash"

abbrev pub choice_place : ChoiceFault → List ℕ
choice_place choice_faults.NoMemory = []
choice_place (choice_faults.Width r) = decimal r
choice_place (choice_faults.Word r) = decimal r
choice_place (choice_faults.Unknown r) = decimal r
choice_place (choice_faults.Clash r) = decimal r

-- why rows are refused as a plan, and where: the row, or the number of rows
abbrev pub plan_reason : PlanFault → List ℕ
plan_reason plan_faults.NoMemory = []
plan_reason (plan_faults.Record r) = codes "record"
plan_reason (plan_faults.Number r) = codes "number"
plan_reason (plan_faults.Order r) = codes "order"
plan_reason (plan_faults.Missing k) = codes "missing"
plan_reason (plan_faults.After r) = codes "after"

abbrev pub plan_place : PlanFault → List ℕ
plan_place plan_faults.NoMemory = []
plan_place (plan_faults.Record r) = decimal r
plan_place (plan_faults.Number r) = decimal r
plan_place (plan_faults.Order r) = decimal r
plan_place (plan_faults.Missing k) = decimal k
plan_place (plan_faults.After r) = decimal r

-- the part of a plan that has the fault, and the number of the item
abbrev pub fault_part : Fault → List ℕ
fault_part (plan_parts.Names i) = codes "names"
fault_part (plan_parts.Links i) = codes "links"
fault_part (plan_parts.Must i) = codes "must"
fault_part (plan_parts.Not i) = codes "not"
fault_part (plan_parts.Monitor i) = codes "monitor"
fault_part (plan_parts.Pocket i) = codes "pocket"
fault_part (plan_parts.Path i) = codes "path"
fault_part (plan_parts.Recipe i) = codes "recipe"

abbrev pub fault_number : Fault → ℕ
fault_number (plan_parts.Names i) = i
fault_number (plan_parts.Links i) = i
fault_number (plan_parts.Must i) = i
fault_number (plan_parts.Not i) = i
fault_number (plan_parts.Monitor i) = i
fault_number (plan_parts.Pocket i) = i
fault_number (plan_parts.Path i) = i
fault_number (plan_parts.Recipe i) = i

-- why a plan is not solved over: the part that has the fault
abbrev pub check_reason : Fault → List ℕ
check_reason f = codes "check-" ++ fault_part f

-- why rows are refused as rounds, and where: the row, or the row and the field
abbrev pub round_reason : RoundFault → List ℕ
round_reason round_faults.NoMemory = []
round_reason (round_faults.Width r) = codes "width"
round_reason (round_faults.Number r f) = codes "number"

abbrev pub round_place : RoundFault → List ℕ
round_place round_faults.NoMemory = []
round_place (round_faults.Width r) = decimal r
round_place (round_faults.Number r f) = decimal r ++ codes " " ++ decimal f

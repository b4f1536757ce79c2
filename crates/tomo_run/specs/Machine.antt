-- How one file after the other is taken in.
use Rattle.std.specs.Prelude.{ℕ, ◌≡◌, ◌≢◌, ◌+◌, ◌<◌, ◌⊎◌, List, length, codes, decimal, Bool, Option, nat_lt, Ok, MatchBool}
use Rattle.outside.specs.Shelf.{Files, Gives, Tells}
use Rattle.outside.specs.declared.shelf.Got.{Got}
use Rattle.rows.specs.Rows.{Row, RowList, rows_of}
use Rattle.topology.specs.Topology.{Topo, IsTopology, names_of, topo_of}
use Rattle.topology.specs.Faults.{AllFine, IsTopoFault, examined}
use Rattle.topology.specs.declared.faults.TopoFault.{TopoFault}
use Rattle.topology.specs.declared.faults.TopoFault.TheVariants as faults
use Rattle.topology.specs.declared.faults.MonFault.{MonFault}
use Rattle.topology.specs.declared.faults.MonFault.TheVariants as mon_faults
use Rattle.topology.specs.Monitors.{AllKnown, IsMonFault, monitors_of}
use Rattle.topology.specs.Choice.{choice_of, AreFineChoices, IsChoiceFault}
use Rattle.topology.specs.declared.faults.ChoiceFault.{ChoiceFault}
use Rattle.topology.specs.declared.faults.ChoiceFault.TheVariants as choice_faults
use Rattle.answers.specs.FileKinds.{limit}
use Rattle.tomo_run.specs.Table.{files_of}
use Rattle.answers.specs.Refusals.{refused, topology_reason, topology_place, monitor_reason, monitor_place, choice_reason, choice_place, plan_reason, plan_place, check_reason, fault_number, round_reason, round_place}
use Rattle.tomo_run.specs.declared.table.Command.{Command}
use Rattle.tomo_run.specs.declared.table.Command.TheVariants.{OnFiles, Drill}
use Rattle.tomo_run.specs.declared.table.FileTask.{FileTask}
use Rattle.tomo_run.specs.declared.table.FileTask.TheVariants.{OnTopology, OnMonitors, OnChoice, OnPlan}
use Rattle.answers.specs.declared.tasks.MonitorTask.{MonitorTask}
use Rattle.answers.specs.declared.file_kind.FileKind.{FileKind}
use Rattle.answers.specs.declared.file_kind.FileKind.TheVariants.{TopologyFile, MonitorFile, ChoiceFile, PlanFile, RoundFile}
use Rattle.tomo_run.specs.declared.table.Shape.{Shape}
use Rattle.plan_form.specs.Parts.{PlanParts, IsWellFormed}
use Rattle.plan_form.specs.PlanRows.{AreRowsOf}
use Rattle.plan_form.specs.Reading.{IsFirstPlanFault}
use Rattle.plan_form.specs.Good.{IsGoodPlan}
use Rattle.cert_check.specs.declared.report.Fault.{Fault}
use Rattle.cert_check.specs.Faults.{IsFault}
use Rattle.round_reader.specs.Sums.{AreRounds}
use Rattle.round_reader.specs.Faults.{IsFirstRoundFault}
use Rattle.round_reader.specs.declared.faults.RoundFault.{RoundFault}
use Rattle.round_reader.specs.declared.faults.RoundFault.TheVariants as round_faults
use Rattle.plan_form.specs.declared.faults.PlanFault.{PlanFault}
use Rattle.plan_form.specs.declared.faults.PlanFault.TheVariants as plan_faults
use Rattle.tomo_run.specs.declared.table.PlanTask.{PlanTask}
use Rattle.tomo_run.specs.declared.table.PlanTask.TheVariants.{Check, Migrate, Solve}
use Rattle.answers.specs.declared.placed.Placed.{Placed}
use Rattle.answers.specs.declared.chosen.Chosen.{Chosen}
use Rattle.answers.specs.declared.checked.Checked.{Checked}
use Rattle.answers.specs.declared.checked.Measured.{Measured}
use Rattle.tomo_run.specs.declared.machine.Wants.{Wants}
use Rattle.tomo_run.specs.declared.machine.Wants.TheVariants.{Topology, Monitors, AChoice, APlan, Sums}
use Rattle.answers.specs.declared.inputs.Inputs.{Inputs}
use Rattle.answers.specs.declared.inputs.Inputs.TheVariants as inputs
use Rattle.answers.specs.declared.inputs.FileInputs.{FileInputs}
use Rattle.answers.specs.declared.inputs.FileInputs.TheVariants as files
use Rattle.tomo_run.specs.declared.machine.End.{End}
use Rattle.answers.specs.Answers.{AreFit}
use Rattle.tomo_run.specs.declared.machine.End.TheVariants.{Ready, Refused}
use Rattle.tomo_run.specs.declared.machine.Next.{Next}
use Rattle.tomo_run.specs.declared.machine.Next.TheVariants.{Ask, Stop}

-- what the next file holds
abbrev pub kind_of : Wants → FileKind
kind_of (Topology task header) = TopologyFile
kind_of (Monitors task topology) = MonitorFile
kind_of (AChoice topology) = ChoiceFile
kind_of (APlan task topology) = PlanFile
kind_of (Sums checked) = RoundFile

-- how many files are still to be asked for
abbrev pub files_left : Wants → ℕ
files_left (Topology task header) = length (files_of (OnFiles task))
files_left (Monitors task topology) = 1
files_left (AChoice topology) = 1
files_left (APlan Check topology) = 1
files_left (APlan Migrate topology) = 1
files_left (APlan Solve topology) = 2
files_left (Sums checked) = 1

-- what a command wants first: a drill wants no file
abbrev pub begun : Command → Bool → Next
begun (OnFiles task) header = Ask (Topology task header)
begun (Drill numbers) header = Stop (Ready (inputs.Drill numbers))

abbrev pub start : Shape → Next
start shape = begun shape.command shape.header

-- the rows are those of a topology, without a fault
pub record IsRead (header : Bool) (rows : List Row) (t : Topo) : Type 0 where
  pub fine : AllFine header rows (length rows)
  pub named : t ≡ topo_of (examined header rows)
  pub topology : IsTopology t

-- the end of the reading, with the last file of a command
abbrev pub ready : FileInputs → Next
ready all = Stop (Ready (inputs.OnFiles all))

-- what a task does with its topology
abbrev pub with_topology : FileTask → Topo → Next
with_topology (OnTopology task) t = ready (files.OnTopology task t)
with_topology (OnMonitors task) t = Ask (Monitors task t)
with_topology OnChoice t = Ask (AChoice t)
with_topology (OnPlan task) t = Ask (APlan task t)

-- what the rows of a topology file do: they are a topology, or refused for their first fault
abbrev pub TakesTopology : FileTask → Bool → List ℕ → List Row → Next → Type 0
TakesTopology task header name rows next =
    ((t : Topo) × IsRead header rows t × (next ≡ with_topology task t))
    ⊎ ((f : TopoFault) × (f ≢ faults.NoMemory) × IsTopoFault header rows f
    × (next ≡ Stop (Refused (refused name (topology_reason f) (topology_place (names_of (examined header rows)) f)))))

-- what the rows of a monitor file do: they name nodes, or are refused at the first that names none
abbrev pub TakesMonitors : MonitorTask → Topo → List ℕ → List Row → Next → Type 0
TakesMonitors task t name rows next =
    (AllKnown t.names rows (length rows) × (p : Placed) × (p.topology ≡ t) × (p.monitors ≡ monitors_of t.names rows) × (next ≡ ready (files.OnMonitors task p)))
    ⊎ ((f : MonFault) × (f ≢ mon_faults.NoMemory) × IsMonFault t.names rows f × (next ≡ Stop (Refused (refused name (monitor_reason f) (monitor_place f)))))

-- what the rows of a choice do: they choose nodes, or are refused for their first fault
abbrev pub TakesChoice : Topo → List ℕ → List Row → Next → Type 0
TakesChoice t name rows next =
    (AreFineChoices t.names rows (length rows) × (c : Chosen) × (c.topology ≡ t) × (c.choice ≡ choice_of t.names rows) × (next ≡ ready (files.OnChoice c)))
    ⊎ ((f : ChoiceFault) × (f ≢ choice_faults.NoMemory) × IsChoiceFault t.names rows f × (next ≡ Stop (Refused (refused name (choice_reason f) (choice_place f)))))

-- the plan is good, and c is the topology with it
abbrev pub IsCheckedOf : Topo → PlanParts → Checked → Type 0
IsCheckedOf t p c = IsGoodPlan t.names t.graph p × (c.topology ≡ t) × (c.plan ≡ p)

-- the row refuses the plan for its first fault
abbrev pub RefusesFault : Topo → PlanParts → List ℕ → RowList → Type 0
RefusesFault t p name refusal = (f : Fault) × IsFault t p f × (refusal ≡ refused name (check_reason f) (decimal (fault_number f)))

-- a good plan goes on in this way, any other is refused for its first fault
abbrev pub TakesGood : (Checked → Next) → Topo → PlanParts → List ℕ → Next → Type 0
TakesGood on t p name next =
    ((c : Checked) × IsCheckedOf t p c × (next ≡ on c)) ⊎ ((refusal : RowList) × RefusesFault t p name refusal × (next ≡ Stop (Refused refusal)))

-- what a task does with its topology and plan
abbrev pub GoesOn : PlanTask → Topo → PlanParts → List ℕ → Next → Type 0
GoesOn Check t p name next = next ≡ ready (files.Check (record { topology = t; plan = p }))
GoesOn Migrate t p name next = TakesGood (λ c. ready (files.Migrate c)) t p name next
GoesOn Solve t p name next = TakesGood (λ c. Ask (Sums c)) t p name next

-- what the rows of a plan file do: they are those of a plan, or refused for their first fault
abbrev pub TakesPlan : PlanTask → Topo → List ℕ → List Row → Next → Type 0
TakesPlan task t name rows next =
    ((p : PlanParts) × IsWellFormed p × AreRowsOf rows p × GoesOn task t p name next)
    ⊎ ((f : PlanFault) × (f ≢ plan_faults.NoMemory) × IsFirstPlanFault rows f × (next ≡ Stop (Refused (refused name (plan_reason f) (plan_place f)))))

-- what the rows of a file of rounds do: they are rounds over the plan, or refused for their first fault
abbrev pub TakesSums : Checked → List ℕ → List Row → Next → Type 0
TakesSums c name rows next =
    ((m : Measured) × (m.checked ≡ c) × AreRounds (length c.plan.paths) rows m.rounds × (next ≡ ready (files.Solve m)))
    ⊎ ((f : RoundFault) × (f ≢ round_faults.NoMemory) × IsFirstRoundFault (length c.plan.paths) rows f × (next ≡ Stop (Refused (refused name (round_reason f) (round_place f)))))

-- what the rows of a file do
abbrev pub Takes : Wants → List ℕ → List Row → Next → Type 0
Takes (Topology task header) name rows next = TakesTopology task header name rows next
Takes (Monitors task t) name rows next = TakesMonitors task t name rows next
Takes (AChoice t) name rows next = TakesChoice t name rows next
Takes (APlan task t) name rows next = TakesPlan task t name rows next
Takes (Sums c) name rows next = TakesSums c name rows next

-- what the content of a file does: one longer than the limit is refused
abbrev pub Steps : Wants → List ℕ → List ℕ → Next → Type 0
Steps wanted name content next =
    MatchBool (nat_lt (limit (kind_of wanted)) (length content))
    (next ≡ Stop (Refused (refused name (codes "long") (decimal (limit (kind_of wanted))))))
    (Takes wanted name (rows_of content) next)

-- what was read decides the step, whatever else the shelf tells
abbrev pub StepsBy : Wants → List ℕ → Got → List ℕ → Next → Type 0
StepsBy wanted name got content next =
    (told : Option Files) → Gives told name (limit (kind_of wanted)) (Ok got) content → Tells told name (λ file. Steps wanted name file next)

-- inputs that files hold
abbrev pub IsOfFiles : Inputs → Type 0
IsOfFiles (inputs.OnFiles all) = Unit {0}
IsOfFiles (inputs.Drill numbers) = ⊥

-- the numbers of a drill are fit where the reading ends
abbrev pub EndIsFit : End → Type 0
EndIsFit (Ready all) = AreFit all
EndIsFit (Refused rows) = Unit {0}

-- one file fewer is left than before
abbrev pub Fewer : ℕ → Next → Type 0
Fewer left (Ask later) = (left ≡ files_left later + 1) × (0 < files_left later)
Fewer left (Stop (Ready all)) = (left ≡ 1) × IsOfFiles all
Fewer left (Stop (Refused rows)) = Unit {0}

-- all files are left
abbrev pub StartsWith : Shape → Next → Type 0
StartsWith shape (Ask wanted) = (files_left wanted ≡ length (files_of shape.command)) × (0 < files_left wanted)
StartsWith shape (Stop (Ready all)) = 0 ≡ length (files_of shape.command)
StartsWith shape (Stop (Refused rows)) = Unit {0}

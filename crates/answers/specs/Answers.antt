-- What each command answers, over all that it has read.
use Rattle.std.specs.Prelude.{ℕ, ◌≡◌, List, true}
use Rattle.rows.specs.Rows.{Row}
use Rattle.topology.specs.Topology.{Topo}
use Rattle.answers.specs.Judging.{Judges}
use Rattle.answers.specs.Planning.{Plans, PlansFor, PlansWith}
use Rattle.answers.specs.Linking.{TellsLink}
use Rattle.answers.specs.Reporting.{Reports}
use Rattle.answers.specs.Migrating.{Migrates}
use Rattle.answers.specs.Rounds.{Solves}
use Rattle.answers.specs.Components.{TellsParts}
use Rattle.answers.specs.Growing.{TellsTrees}
use Rattle.answers.specs.Drilling.{fit, Drills}
use Rattle.answers.specs.declared.status.Status.{Status}
use Rattle.answers.specs.declared.placed.Placed.{Placed}
use Rattle.answers.specs.declared.tasks.TopologyTask.{TopologyTask}
use Rattle.answers.specs.declared.tasks.TopologyTask.TheVariants.{Plan, Components, Trees}
use Rattle.answers.specs.declared.tasks.MonitorTask.{MonitorTask}
use Rattle.answers.specs.declared.tasks.MonitorTask.TheVariants.{Judge, Paths, Link}
use Rattle.answers.specs.declared.inputs.FileInputs.TheVariants.{OnTopology, OnMonitors, OnChoice, Check, Migrate, Solve}
use Rattle.answers.specs.declared.inputs.Inputs.{Inputs}
use Rattle.answers.specs.declared.inputs.Inputs.TheVariants.{OnFiles, Drill}

-- of a topology alone
abbrev pub TopologyAnswers : TopologyTask → Topo → Status → List Row → Type 0
TopologyAnswers Plan t status rows = Plans t status rows
TopologyAnswers Components t status rows = TellsParts t status rows
TopologyAnswers Trees t status rows = TellsTrees t status rows

-- of a topology and monitors, for two further words
abbrev pub MonitorAnswers : MonitorTask → Placed → List ℕ → List ℕ → Status → List Row → Type 0
MonitorAnswers Judge p first second status rows = Judges p.topology p.monitors status rows
MonitorAnswers Paths p first second status rows = PlansFor p.topology p.monitors status rows
MonitorAnswers Link p first second status rows = TellsLink p.topology p.monitors first second status rows

-- the answers of each command, over all that it has read, and two further words
abbrev pub Answers : Inputs → List ℕ → List ℕ → Status → List Row → Type 0
Answers (OnFiles (OnTopology task t)) first second status rows = TopologyAnswers task t status rows
Answers (OnFiles (OnMonitors task p)) first second status rows = MonitorAnswers task p first second status rows
Answers (OnFiles (OnChoice c)) first second status rows = PlansWith c.topology c.choice status rows
Answers (OnFiles (Check c)) first second status rows = Reports c.topology c.plan status rows
Answers (OnFiles (Migrate c)) first second status rows = Migrates c.plan status rows
Answers (OnFiles (Solve m)) first second status rows = Solves m.checked.topology m.checked.plan m.rounds status rows
Answers (Drill numbers) first second status rows = Drills numbers status rows

-- the numbers of a drill are fit
abbrev pub AreFit : Inputs → Type 0
AreFit (OnFiles files) = Unit {0}
AreFit (Drill numbers) = fit numbers ≡ true

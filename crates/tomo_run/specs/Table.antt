-- The table of commands, and the shape of a command line.
use Rattle.std.specs.Prelude.{ℕ, ◌+◌, ◌-◌, ◌∷◌, [], ◌&&◌, List, length, take, drop, codes, Bool, true, false, Option, Some, None, nat_lt, if◌then◌else◌, ◌==◌, slice_index_or, nat_eq}
use Rattle.std.specs.List.{starts_with}
use Rattle.std.specs.Str.{bytes_eq}
use Rattle.tomo_run.specs.declared.table.Command.{Command}
use Rattle.tomo_run.specs.declared.table.Command.TheVariants.{OnFiles, Drill}
use Rattle.answers.specs.declared.tasks.TopologyTask.TheVariants.{Plan, Components, Trees}
use Rattle.tomo_run.specs.declared.table.FileTask.{FileTask}
use Rattle.tomo_run.specs.declared.table.FileTask.TheVariants.{OnTopology, OnMonitors, OnChoice, OnPlan}
use Rattle.answers.specs.declared.tasks.MonitorTask.TheVariants.{Judge, Paths, Link}
use Rattle.tomo_run.specs.declared.table.PlanTask.TheVariants.{Check, Migrate, Solve}
use Rattle.answers.specs.declared.file_kind.FileKind.{FileKind}
use Rattle.answers.specs.declared.file_kind.FileKind.TheVariants.{TopologyFile, MonitorFile, ChoiceFile, PlanFile, RoundFile}
use Rattle.tomo_run.specs.declared.table.Shape.{Shape}
use Rattle.answers.specs.declared.drilling.DrillNumbers.{DrillNumbers}
use Rattle.tomo_run.specs.Numbers.{numbers_of}

-- the table of commands over files: the word of each, and the task that it names
abbrev pub table : List (List ℕ × FileTask)
table =
    (codes "plan", OnTopology Plan)
    ∷ (codes "components", OnTopology Components)
    ∷ (codes "trees", OnTopology Trees)
    ∷ (codes "judge", OnMonitors Judge)
    ∷ (codes "paths", OnMonitors Paths)
    ∷ (codes "link", OnMonitors Link)
    ∷ (codes "check", OnPlan Check)
    ∷ (codes "migrate", OnPlan Migrate)
    ∷ (codes "solve", OnPlan Solve)
    ∷ []

-- the task of the first line with the word
abbrev pub task_in : List ℕ → List (List ℕ × FileTask) → Option FileTask
task_in word [] = None
task_in word (line ∷ lines) = if bytes_eq word line.0 then Some line.1 else task_in word lines

-- the task that a word names
abbrev pub task_of : List ℕ → Option FileTask
task_of word = task_in word table

-- the task that the same word names where one file more follows
abbrev pub with_one_more : FileTask → Option FileTask
with_one_more (OnTopology Plan) = Some OnChoice
with_one_more task = None

-- the files of a command, in the order in which they are asked for: what its task stands on says which
abbrev pub files_of : Command → List FileKind
files_of (OnFiles (OnTopology task)) = TopologyFile ∷ []
files_of (OnFiles (OnMonitors task)) = TopologyFile ∷ MonitorFile ∷ []
files_of (OnFiles OnChoice) = TopologyFile ∷ ChoiceFile ∷ []
files_of (OnFiles (OnPlan Check)) = TopologyFile ∷ PlanFile ∷ []
files_of (OnFiles (OnPlan Migrate)) = TopologyFile ∷ PlanFile ∷ []
files_of (OnFiles (OnPlan Solve)) = TopologyFile ∷ PlanFile ∷ RoundFile ∷ []
files_of (Drill numbers) = []

-- how many words a command takes after its files
abbrev pub other_words : Command → ℕ
other_words (OnFiles (OnTopology task)) = 0
other_words (OnFiles (OnMonitors Link)) = 2
other_words (OnFiles (OnMonitors Judge)) = 0
other_words (OnFiles (OnMonitors Paths)) = 0
other_words (OnFiles OnChoice) = 0
other_words (OnFiles (OnPlan task)) = 0
other_words (Drill numbers) = 3

-- how many words a command takes in all after its own and the option
abbrev pub word_count : Command → ℕ
word_count command = length (files_of command) + other_words command

-- the word begins with two dashes
abbrev pub begins_option : List ℕ → Bool
begins_option word = starts_with nat_eq word (codes "--")

-- no word begins with two dashes
unfoldable pub no_options : List (List ℕ) → Bool
no_options [] = true
no_options (word ∷ words) = if begins_option word then false else no_options words

-- the word after the command says that the topology's first row is a header
abbrev pub has_header : List (List ℕ) → Bool
has_header words = nat_lt 1 (length words) && bytes_eq (slice_index_or words 1 []) (codes "--header")

-- the place of the first file
abbrev pub first_place : Bool → ℕ
first_place true = 2
first_place false = 1

-- as many words as the command takes stand from this place on, and no option
abbrev pub fits : List (List ℕ) → Command → ℕ → Bool
fits words command first =
    (nat_lt first (length words + 1) && (length words - first == word_count command)) && no_options (drop first words)

-- the shape of words that fit a task, and else the other
abbrev pub fitted : List (List ℕ) → FileTask → Option Shape → Option Shape
fitted words task other =
    if fits words (OnFiles task) (first_place (has_header words)) then Some (record { command = OnFiles task; header = has_header words }) else other

-- the shape of words for a task, where there is one
abbrev pub fitted_if : List (List ℕ) → Option FileTask → Option Shape
fitted_if words None = None
fitted_if words (Some task) = fitted words task None

-- the shape of words that begin with the word of a task: with the files of that task, or with one more
abbrev pub shaped : List (List ℕ) → Option FileTask → Option Shape
shaped words None = None
shaped words (Some task) = fitted words task (fitted_if words (with_one_more task))

-- the shape of a drill
abbrev pub drill_with : Option DrillNumbers → Option Shape
drill_with None = None
drill_with (Some numbers) = Some (record { command = Drill numbers; header = false })

-- the shape of words that begin with the word of a drill: three numbers follow
abbrev pub drill_shape : List (List ℕ) → Option Shape
drill_shape words = if length words == 4 then drill_with (numbers_of words) else None

-- the shape of the words, where they have one
abbrev pub shape : List (List ℕ) → Option Shape
shape words =
    if bytes_eq (slice_index_or words 0 []) (codes "drill") then drill_shape words else shaped words (task_of (slice_index_or words 0 []))

-- the names of the files of a shape
abbrev pub named_files : Shape → List (List ℕ) → List (List ℕ)
named_files shape words = take (length (files_of shape.command)) (drop (first_place shape.header) words)

-- what stands in the words by their shape; nothing, where they have none
abbrev pub by_shape : (Shape → List (List ℕ) → List (List ℕ)) → List (List ℕ) → Option Shape → List (List ℕ)
by_shape part words None = []
by_shape part words (Some shape) = part shape words

-- the words that name files, in their order
abbrev pub file_words : List (List ℕ) → List (List ℕ)
file_words words = by_shape named_files words (shape words)

-- the words after the files of a shape
abbrev pub rest_of : Shape → List (List ℕ) → List (List ℕ)
rest_of shape words = drop (length (files_of shape.command)) (drop (first_place shape.header) words)

-- the words after those that name files
abbrev pub last_words : List (List ℕ) → List (List ℕ)
last_words words = by_shape rest_of words (shape words)

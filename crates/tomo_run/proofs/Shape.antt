-- The words of a shape: how many files they name, and at which places.
use Rattle.std.proofs.Common.{inl, inr, subst, ◌==◌, ◌≡◌, ◌∙◌, ap, refl, ℕ, ◌+◌, ◌-◌, ◌<◌, ◌≤◌, List, [], length, take, drop, get_or, Option, Some, None, arith, true, false, Bool, length-drop, if◌then◌else◌}
use Rattle.std.proofs.lemmas.List.{get_or-drop, get_or-take, length-take-le, drop_more}
use Rattle.std.proofs.lemmas.Bool.{and_parts, cases_Bool, eqb-true}
use Rattle.std.specs.Prelude.{codes}
use Rattle.std.specs.Str.{bytes_eq}
use Rattle.answers.specs.declared.drilling.DrillNumbers.{DrillNumbers}
use Rattle.answers.specs.Drilling.{fit}
use Rattle.tomo_run.specs.Numbers.{number_of, numbers_in, numbers_of}
use Rattle.tomo_run.specs.Table.{shape, shaped, with_one_more, fitted_if, drill_with, drill_shape, fits, first_place, has_header, files_of, word_count, file_words, by_shape, named_files, begins_option, no_options}
use Rattle.tomo_run.specs.Machine.{begun, start, EndIsFit, Fewer}
use Rattle.tomo_run.specs.declared.table.FileTask.{FileTask}
use Rattle.answers.specs.declared.inputs.Inputs.TheVariants as inputs
use Rattle.tomo_run.specs.declared.machine.End.{End}
use Rattle.tomo_run.specs.declared.machine.End.TheVariants.{Ready, Refused}
use Rattle.tomo_run.specs.declared.machine.Next.TheVariants.{Stop}
use Rattle.tomo_run.specs.declared.table.Command.{Command}
use Rattle.tomo_run.specs.declared.table.Command.TheVariants.{OnFiles, Drill}
use Rattle.tomo_run.specs.declared.table.FileTask.TheVariants.{OnTopology, OnMonitors, OnChoice, OnPlan}
use Rattle.tomo_run.specs.declared.table.PlanTask.TheVariants.{Check, Migrate, Solve}
use Rattle.tomo_run.specs.declared.table.Shape.{Shape}

-- a shape has as many words after its place as the command has files
fits-count : (words : List (List ℕ)) (command : Command) (first : ℕ) → fits words command first ≡ true → length words - first ≡ word_count command
fits-count words command first e = eqb-true _ _ (and_parts _ _ (and_parts _ _ e).0).1

-- so has the shape that a test lets through
tested-count : (words : List (List ℕ)) (task : FileTask) (b : Bool) (other : Option Shape) (s : Shape)
    → (b ≡ true → length words - first_place (has_header words) ≡ word_count (OnFiles task))
    → (other ≡ Some s → length words - first_place s.header ≡ word_count s.command)
    → (if b then Some (record { command = OnFiles task; header = has_header words }) else other) ≡ Some s
    → length words - first_place s.header ≡ word_count s.command
tested-count words task true other s count later e =
    let same : ◌≡◌ {A = Shape} (record { command = OnFiles task; header = has_header words }) s = cc e in
    rw (← same) (count refl)
tested-count words task false other s count later e = later e

-- so has the shape of words for a task
fitted-count : (words : List (List ℕ)) (o : Option FileTask) (s : Shape) → fitted_if words o ≡ Some s → length words - first_place s.header ≡ word_count s.command
fitted-count words None s e = cc e
fitted-count words (Some task) s e = tested-count words task _ None s (fits-count words (OnFiles task) _) (λ none. cc none) e

-- and the shape of words that begin with the word of a task
shaped-count : (words : List (List ℕ)) (o : Option FileTask) (s : Shape) → shaped words o ≡ Some s → length words - first_place s.header ≡ word_count s.command
shaped-count words None s e = cc e
shaped-count words (Some task) s e = tested-count words task _ _ s (fits-count words (OnFiles task) _) (fitted-count words (with_one_more task) s) e

-- so has the shape of a drill
drill-with-count : (words : List (List ℕ)) (o : Option DrillNumbers) (s : Shape) → length words ≡ 4 → drill_with o ≡ Some s → length words - first_place s.header ≡ word_count s.command
drill-with-count words None s four e = cc e
drill-with-count words (Some numbers) s four e =
    let same : ◌≡◌ {A = Shape} (record { command = Drill numbers; header = false }) s = cc e in
    rw (← same, four) refl

drill-count : (words : List (List ℕ)) (s : Shape) → drill_shape words ≡ Some s → length words - first_place s.header ≡ word_count s.command
drill-count words s e = elim (cases_Bool (length words == 4)) [
  | inl four ↦ drill-with-count words (numbers_of words) s (eqb-true _ _ four) (rw four at e)
  | inr other ↦ cc (rw other at e)
]

-- and that of any words
rest-count : (words : List (List ℕ)) (s : Shape) → shape words ≡ Some s → length words - first_place s.header ≡ word_count s.command
rest-count words s e = elim (cases_Bool (bytes_eq (get_or words 0 []) (codes "drill"))) [
  | inl drill ↦ drill-count words s (rw drill at e)
  | inr other ↦ shaped-count words _ s (rw other at e)
]

-- the files of a shape are the words from its place on
files-of-shape : (words : List (List ℕ)) (s : Shape) → shape words ≡ Some s → file_words words ≡ take (length (files_of s.command)) (drop (first_place s.header) words)
files-of-shape words s e = ap (by_shape named_files words) e

-- the words name as many files as the command reads
pub file_count : (words : List (List ℕ)) (s : Shape) → shape words ≡ Some s → length (file_words words) ≡ length (files_of s.command)
file_count words s e =
    rw (files-of-shape words s e) (length-take-le (length (files_of s.command)) (drop (first_place s.header) words) (rw (length-drop (first_place s.header) words, rest-count words s e) (omega arith)))

-- a command reads at most three files
pub files_few : (command : Command) → length (files_of command) ≤ 3
files_few (OnFiles (OnTopology task)) = omega arith
files_few (OnFiles (OnMonitors task)) = omega arith
files_few (OnFiles OnChoice) = omega arith
files_few (OnFiles (OnPlan Check)) = omega arith
files_few (OnFiles (OnPlan Migrate)) = omega arith
files_few (OnFiles (OnPlan Solve)) = omega arith
files_few (Drill numbers) = omega arith

-- the first file is the second word or the third
pub first_low : (header : Bool) → first_place header ≤ 2
first_low true = omega arith
first_low false = omega arith

-- the place of a file is one of the words
pub file_place : (words : List (List ℕ)) (s : Shape) (turn : ℕ) → shape words ≡ Some s → turn < length (file_words words) → first_place s.header + turn < length words
file_place words s turn e below =
    let all = rest-count words s e in
    let count = file_count words s e in
    omega (arith, all, count, below)

-- the word at that place names the file
file_at : (words : List (List ℕ)) (s : Shape) (turn : ℕ) → shape words ≡ Some s → turn < length (file_words words)
    → get_or (file_words words) turn [] ≡ get_or words (first_place s.header + turn) []
file_at words s turn e below =
    rw (files-of-shape words s e) (get_or-take _ (drop (first_place s.header) words) turn [] (rw (file_count words s e) at below) ∙ get_or-drop (first_place s.header) words turn [])

-- what was read as the next word is the name of the next file
pub file_named : (words : List (List ℕ)) (s : Shape) (first turn : ℕ) (name : List ℕ) → shape words ≡ Some s → turn < length (file_words words) → first ≡ first_place s.header
    → name ≡ get_or words (first + turn) [] → name ≡ get_or (file_words words) turn []
file_named words s first turn name e below place same = rw (file_at words s turn e below, ← place) same

-- words with no option so far
pub option_here : (words : List (List ℕ)) (place : ℕ) → place < length words → begins_option (get_or words place []) ≡ true → no_options (drop place words) ≡ false
unfolding no_options
option_here words place below starts = rw (drop_more words place [] below, starts) refl

-- words with an option later on, if at all
pub option_later : (words : List (List ℕ)) (place : ℕ) → place < length words → begins_option (get_or words place []) ≡ false
    → no_options (drop place words) ≡ no_options (drop (place + 1) words)
unfolding no_options
option_later words place below starts = rw (drop_more words place [] below, starts) refl

-- no words have no option
pub option_none : no_options [] ≡ true
unfolding no_options
option_none = refl

-- ---- the numbers of a drill

-- three numbers that are given are fit
given_fit : (a b c : Option ℕ) (x : DrillNumbers) → numbers_in a b c ≡ Some x → fit x ≡ true
given_fit None b c x e = cc e
given_fit (Some a) None c x e = cc e
given_fit (Some a) (Some b) None x e = cc e
given_fit (Some a) (Some b) (Some c) x e = elim (cases_Bool (fit (record { seed = a; nodes = b; links = c }))) [
  | inl fits ↦
      let same : ◌≡◌ {A = DrillNumbers} (record { seed = a; nodes = b; links = c }) x = cc (rw fits at e) in
      rw (← same) fits
  | inr other ↦ cc (rw other at e)
]

-- so are those of a shape
abbrev CommandIsFit : Command → Type 0
CommandIsFit (OnFiles task) = Unit {0}
CommandIsFit (Drill numbers) = fit numbers ≡ true

drill-with-fit : (o : Option DrillNumbers) (s : Shape) → ((x : DrillNumbers) → o ≡ Some x → fit x ≡ true) → drill_with o ≡ Some s → CommandIsFit s.command
drill-with-fit None s fits e = cc e
drill-with-fit (Some numbers) s fits e =
    let same : ◌≡◌ {A = Shape} (record { command = Drill numbers; header = false }) s = cc e in
    subst (λ (s : Shape). CommandIsFit s.command) same (fits numbers refl)

-- a shape on a topology has no numbers
tested-fit : (words : List (List ℕ)) (task : FileTask) (b : Bool) (other : Option Shape) (s : Shape) → (other ≡ Some s → CommandIsFit s.command)
    → (if b then Some (record { command = OnFiles task; header = has_header words }) else other) ≡ Some s → CommandIsFit s.command
tested-fit words task true other s later e =
    let same : ◌≡◌ {A = Shape} (record { command = OnFiles task; header = has_header words }) s = cc e in
    subst (λ (s : Shape). CommandIsFit s.command) same tt
tested-fit words task false other s later e = later e

-- nor has the shape of words for a task
fitted-fit : (words : List (List ℕ)) (o : Option FileTask) (s : Shape) → fitted_if words o ≡ Some s → CommandIsFit s.command
fitted-fit words None s e = cc e
fitted-fit words (Some task) s e = tested-fit words task _ None s (λ none. cc none) e

shaped-fit : (words : List (List ℕ)) (o : Option FileTask) (s : Shape) → shaped words o ≡ Some s → CommandIsFit s.command
shaped-fit words None s e = cc e
shaped-fit words (Some task) s e = tested-fit words task _ _ s (fitted-fit words (with_one_more task) s) e

-- and any numbers of a shape are fit
drill-shape-fit : (words : List (List ℕ)) (s : Shape) → drill_shape words ≡ Some s → CommandIsFit s.command
drill-shape-fit words s e = elim (cases_Bool (length words == 4)) [
  | inl all ↦ drill-with-fit (numbers_of words) s (λ x given. given_fit (number_of (get_or words 1 [])) (number_of (get_or words 2 [])) (number_of (get_or words 3 [])) x given) (rw all at e)
  | inr other ↦ cc (rw other at e)
]

shape-fit : (words : List (List ℕ)) (s : Shape) → shape words ≡ Some s → CommandIsFit s.command
shape-fit words s e = elim (cases_Bool (bytes_eq (get_or words 0 []) (codes "drill"))) [
  | inl drill ↦ drill-shape-fit words s (rw drill at e)
  | inr other ↦ shaped-fit words _ s (rw other at e)
]

-- so are those where the reading ends before the first file
begun-fit : (command : Command) (header : Bool) (end : End) → CommandIsFit command → Stop end ≡ begun command header → EndIsFit end
begun-fit (OnFiles task) header end is e = cc e
begun-fit (Drill numbers) header end is e =
    let same : ◌≡◌ {A = End} (Ready (inputs.Drill numbers)) end = cc e in
    subst EndIsFit same is

pub start_fit : (words : List (List ℕ)) (s : Shape) (end : End) → shape words ≡ Some s → Stop end ≡ start s → EndIsFit end
start_fit words s end e first = begun-fit s.command s.header end (shape-fit words s e) first

-- and where it ends after a file there are none
pub files_fit : (left : ℕ) (end : End) → Fewer left (Stop end) → EndIsFit end
files_fit left (Refused rows) fewer = tt
files_fit left (Ready (inputs.OnFiles all)) fewer = tt
files_fit left (Ready (inputs.Drill numbers)) fewer = absurd fewer.1

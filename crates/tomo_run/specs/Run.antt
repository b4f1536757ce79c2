-- What a run of the program reads, writes and answers.
use Rattle.std.specs.Prelude.{ℕ, ◌≡◌, ◌<◌, ◌⊎◌, ◌++◌, ◌∷◌, [], List, length, take, Option, IfSome, IsSomeAnd}
use Rattle.std.specs.FinMap.{get}
use Rattle.std.specs.Io.KnownBytes.{Appends, Keeps}
use Rattle.outside.specs.Shelf.{Files, Tells, KnowsName}
use Rattle.rows.specs.Rows.{Row, text_of}
use Rattle.tomo_run.specs.Table.{shape, file_words, last_words}
use Rattle.tomo_run.specs.Machine.{start, Steps}
use Rattle.tomo_run.specs.Ends.{Ends}
use Rattle.answers.specs.declared.status.Status.{Status}
use Rattle.answers.specs.declared.status.Status.TheVariants.{Done, Negative, Usage, BadInput, ReadFault, WriteFault, NoMemory}
use Rattle.tomo_run.specs.declared.machine.End.{End}
use Rattle.tomo_run.specs.declared.machine.End.TheVariants.{Ready, Refused}
use Rattle.tomo_run.specs.declared.machine.Next.{Next}
use Rattle.tomo_run.specs.declared.machine.Next.TheVariants.{Ask, Stop}

-- the files of these names, taken in one after the other, lead from here to this answer, for these other words
unfoldable pub RunFrom : Option Files → List (List ℕ) → List (List ℕ) → Next → Status → List Row → Type 0
RunFrom told others [] (Ask wants) status rows = ⊥
RunFrom told others [] (Stop end) status rows = Ends others end status rows
RunFrom told others (name ∷ names) (Ask wants) status rows = Tells told name (λ content. (next : Next) × Steps wants name content next × RunFrom told others names next status rows)
RunFrom told others (name ∷ names) (Stop end) status rows = Ends others end status rows

-- the status and the output are those of a run
abbrev pub IsRun : Option Files → List (List ℕ) → Status → List ℕ → Type 0
IsRun told words status output =
    IsSomeAnd (shape words) (λ shape. (rows : List Row) × RunFrom told (last_words words) (file_words words) (start shape) status rows × (output ≡ text_of rows))

-- these names are asked for from here on: each but the first only where the file before it was taken in, and not refused
unfoldable pub AsksFrom : Files → List (List ℕ) → Next → List (List ℕ) → Type 0
AsksFrom files names next [] = Unit {0}
AsksFrom files [] next (asked ∷ more) = ⊥
AsksFrom files (name ∷ names) (Stop end) (asked ∷ more) = ⊥
AsksFrom files (name ∷ names) (Ask wants) (asked ∷ more) =
    (asked ≡ name) × ((more ≡ []) ⊎ IsSomeAnd (get files name) (λ content. (next : Next) × Steps wants name content next × AsksFrom files names next more))

-- what was asked for grew by such names
abbrev pub AsksOnly : Files → List (List ℕ) → Next → List (List ℕ) → List (List ℕ) → Type 0
AsksOnly files names first old new = (more : List (List ℕ)) × (new ≡ old ++ more) × AsksFrom files names first more

-- in a run no name is asked for after that of a file that is refused
abbrev pub StopsAtRefusal : Files → List (List ℕ) → List (List ℕ) → List (List ℕ) → Type 0
StopsAtRefusal files words old new = IfSome (shape words) (λ shape. AsksOnly files (file_words words) (start shape) old new)

-- the new list is the old one with a front of these names
abbrev pub AddsFront : List (List ℕ) → List (List ℕ) → List (List ℕ) → Type 0
AddsFront old new names = (count : ℕ) × (new ≡ old ++ take count names)

-- the shelf tells each of these names
unfoldable pub KnowsAll : Option Files → List (List ℕ) → Type 0
KnowsAll told [] = Unit {0}
KnowsAll told (name ∷ names) = KnowsName told name × KnowsAll told names

-- the end is that of the run
abbrev pub LeadsTo : Option Files → List (List ℕ) → Next → End → Type 0
LeadsTo told names first end = (others : List (List ℕ)) (status : Status) (rows : List Row) → Ends others end status rows → RunFrom told others names first status rows

-- where nothing was refused, all the names were asked for
abbrev pub AsksAll : List (List ℕ) → List (List ℕ) → List (List ℕ) → End → Type 0
AsksAll old new names (Ready all) = new ≡ old ++ names
AsksAll old new names (Refused refusal) = Unit {0}

-- what was written, by the status
abbrev pub Wrote : Option Files → List (List ℕ) → Status → ℕ → Option (List ℕ) → Option (List ℕ) → Type 0
Wrote told words WriteFault sure before now =
    (status : Status) × (output : List ℕ) × (count : ℕ)
    × IsRun told words status output × (count < length output) × (sure < length output) × Appends before now (take count output)
Wrote told words Done sure before now = (output : List ℕ) × IsRun told words Done output × Appends before now output
Wrote told words Negative sure before now = (output : List ℕ) × IsRun told words Negative output × Appends before now output
Wrote told words BadInput sure before now = (output : List ℕ) × IsRun told words BadInput output × Appends before now output
Wrote told words Usage sure before now = Keeps before now
Wrote told words ReadFault sure before now = Keeps before now
Wrote told words NoMemory sure before now = Keeps before now

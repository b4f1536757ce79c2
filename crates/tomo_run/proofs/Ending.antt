-- What the top call says, by what the reading says.
use Rattle.std.proofs.Common.{◌≡◌, sym, ℕ, List, Option, Some, None, subst}
use Rattle.std.specs.Prelude.{IfSome, IsSomeAnd}
use Rattle.outside.specs.Shelf.{Files}
use Rattle.rows.specs.Rows.{Row, text_of}
use Rattle.tomo_run.specs.Table.{shape, file_words, last_words}
use Rattle.tomo_run.specs.Machine.{start}
use Rattle.tomo_run.specs.Ends.{Ends}
use Rattle.tomo_run.specs.Run.{RunFrom, IsRun, LeadsTo, AsksOnly, StopsAtRefusal}
use Rattle.answers.specs.declared.status.Status.{Status}
use Rattle.tomo_run.specs.declared.table.Shape.{Shape}
use Rattle.tomo_run.specs.declared.machine.End.{End}

-- the names that are asked for from the start of a shape are those of the run of its words
pub stops_at : (told : Option Files) (words : List (List ℕ)) (s : Shape) (old new : List (List ℕ)) → shape words ≡ Some s
    → IfSome told (λ files. AsksOnly files (file_words words) (start s) old new) → IfSome told (λ files. StopsAtRefusal files words old new)
stops_at None words s old new e asks = tt
stops_at (Some files) words s old new e asks = subst (λ o. IfSome o (λ s. AsksOnly files (file_words words) (start s) old new)) (sym e) asks

-- an end of the reading, and what is answered to it, are a run
pub run_of : (told : Option Files) (words : List (List ℕ)) (s : Shape) (end : End) (status : Status) (rows : List Row) (output : List ℕ) → shape words ≡ Some s
    → LeadsTo told (file_words words) (start s) end → Ends (last_words words) end status rows → output ≡ text_of rows → IsRun told words status output
run_of told words s end status rows output e leads ends text =
    subst (λ o. IsSomeAnd o (λ s. (rows : List Row) × RunFrom told (last_words words) (file_words words) (start s) status rows × (output ≡ text_of rows))) (sym e) (rows, leads (last_words words) status rows ends, text)

-- What is answered where the reading ended.
use Rattle.std.specs.Prelude.{ℕ, ◌≡◌, [], List, slice_index_or}
use Rattle.rows.specs.Rows.{Row}
use Rattle.answers.specs.Answers.{Answers}
use Rattle.answers.specs.declared.status.Status.{Status}
use Rattle.answers.specs.declared.status.Status.TheVariants.{BadInput}
use Rattle.tomo_run.specs.declared.machine.End.{End}
use Rattle.tomo_run.specs.declared.machine.End.TheVariants.{Ready, Refused}

-- the answers where the reading ended
abbrev pub Ends : List (List ℕ) → End → Status → List Row → Type 0
Ends others (Ready all) status rows = Answers all (slice_index_or others 0 []) (slice_index_or others 1 []) status rows
Ends others (Refused refusal) status rows = (status ≡ BadInput) × (rows ≡ refusal.closed)

use Rattle.std.proofs.Common.{◌≡◌, take, Some}
use Rattle.csv.specs.Writing.{text_written}
use Rattle.rows.specs.Rows.{text_of}
use Rattle.rows.specs.Writing.{IsBetweenRows}
use Rattle.rows.proofs.printing.print_rows.Given as goal

abbrev pub invariant-loop-row : goal.invariant-loop-row
invariant-loop-row l =
    IsBetweenRows l.writer × (text_written (λ v. Some v.items) l.writer ≡ Some (text_of (take l.row l.rows.closed)))

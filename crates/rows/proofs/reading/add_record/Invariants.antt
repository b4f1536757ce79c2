use Rattle.std.proofs.Common.{◌≡◌, ◌≤◌, take, length}
use Rattle.csv.specs.Records.{fields_of}
use Rattle.rows.proofs.reading.add_record.Given as goal

abbrev pub invariant-loop-field : goal.invariant-loop-field
invariant-loop-field l =
    (l.field-iterator.row.now ≡ l.fn.row) × (l.field-iterator.at ≤ length (fields_of l.fn.row))
    × (l.rows.closed ≡ l.initial.rows.closed) × (l.rows.current ≡ take l.field-iterator.at (fields_of l.fn.row))

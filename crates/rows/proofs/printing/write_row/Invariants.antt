use Rattle.std.proofs.Common.{◌≡◌, ◌==◌, ◌&&◌, ◌||◌, not, take, get_or, [], Some}
use Rattle.std.specs.Io.KnownBytes.{Appends}
use Rattle.csv.specs.Writing.{writer_setup, fields_written, has_written, text_written, row_body, is_blank}
use Rattle.rows.specs.Rows.{writer}
use Rattle.rows.proofs.printing.write_row.Given as goal

-- the fields before this one are written
abbrev pub invariant-loop-field : goal.invariant-loop-field
invariant-loop-field l =
    (writer_setup l.writer ≡ writer) × (fields_written l.writer ≡ l.field)
    × Appends (text_written (λ v. Some v.items) l.fn.writer) (text_written (λ v. Some v.items) l.writer)
    (row_body writer (take l.field (get_or l.rows.closed l.row [])))
    × (is_blank writer (take l.field (get_or l.rows.closed l.row [])) ≡ (not (has_written l.writer) && ((l.field == 0) || (l.field == 1))))

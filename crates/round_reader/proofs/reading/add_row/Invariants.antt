use Rattle.std.proofs.Common.{get_or, []}
use Rattle.round_reader.proofs.Parts.{AreAddedTo}
use Rattle.round_reader.proofs.reading.add_row.Given as goal

abbrev pub invariant-loop-field : goal.invariant-loop-field
invariant-loop-field l = AreAddedTo (get_or l.rows.closed l.row []) l.field l.fn.sums.items l.sums.items

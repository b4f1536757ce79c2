use Rattle.round_reader.proofs.Parts.{AreReadTo}
use Rattle.round_reader.proofs.reading.read_rounds.Given as goal

abbrev pub invariant-loop-row : goal.invariant-loop-row
invariant-loop-row l = AreReadTo l.paths l.rows.closed l.row l.sums.items

use Rattle.csv.specs.Reading.{strip_bom}
use Rattle.rows.proofs.Loop.{IsReading}
use Rattle.rows.proofs.reading.read_rows.Given as goal

abbrev pub invariant-loop-row : goal.invariant-loop-row
invariant-loop-row l = IsReading (strip_bom l.fn.bytes) l.row-iterator.rdr l.row-iterator.left l.rows

-- A writer of rows of any length, and what a row adds to its text.
use Rattle.std.specs.Prelude.{◌≡◌, false}
use Rattle.csv.specs.Writing.{writer_setup, fields_written, has_written}
use Rattle.csv.specs.declared.writer.Writer.{Writer}
use Rattle.rows.specs.Rows.{writer}

-- the writer stands between two rows
abbrev pub IsBetweenRows : {W : Type 0} → Writer W → Type 0
IsBetweenRows out = (writer_setup out ≡ writer) × (fields_written out ≡ 0) × (has_written out ≡ false)

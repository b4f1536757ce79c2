use Rattle.rows.proofs.Totals.{rows-fit}
use Rattle.rows.proofs.laws.rows_are_no_more_than_bytes.Goals as goal

pub returns : goal.returns
returns c = rows-fit

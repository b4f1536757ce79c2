use Rattle.rows.proofs.ReadBack.{read-printed}
use Rattle.rows.proofs.laws.printed_rows_are_read_back.Goals as goal

pub returns : goal.returns
returns c = read-printed

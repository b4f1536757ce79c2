use Rattle.tomo_run.proofs.Numerals.{spelled_number}
use Rattle.tomo_run.proofs.numbers.number_at.Goals as goal

pub returns : goal.returns
returns c = spelled_number _ c.number.result (rw (c.as_bytes.ensures.value, c.at.ensures) at c.number.ensures)

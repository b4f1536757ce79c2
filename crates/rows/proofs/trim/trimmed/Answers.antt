use Rattle.rows.specs.Blanks.{trimmed}
use Rattle.rows.proofs.trim.trimmed.Goals as goal

pub returns : goal.returns
unfolding trimmed
returns c = rw (← c.without_first_blanks.ensures) c.without_last_blanks.ensures

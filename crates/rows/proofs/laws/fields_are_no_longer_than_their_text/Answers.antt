use Rattle.rows.proofs.Totals.{fields-fit}
use Rattle.rows.proofs.laws.fields_are_no_longer_than_their_text.Goals as goal

pub returns : goal.returns
returns c = fields-fit

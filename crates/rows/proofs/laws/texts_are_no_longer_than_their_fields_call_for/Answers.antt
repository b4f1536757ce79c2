use Rattle.rows.proofs.TextSizes.{text-fits}
use Rattle.rows.proofs.laws.texts_are_no_longer_than_their_fields_call_for.Goals as goal

pub returns : goal.returns
returns c = text-fits

use Rattle.plan_form.proofs.Distinct.{one_reading}
use Rattle.plan_form.proofs.laws.one_reading.Goals as goal

pub returns : goal.returns
returns c = one_reading

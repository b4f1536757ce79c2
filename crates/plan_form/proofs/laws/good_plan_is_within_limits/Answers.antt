use Rattle.plan_form.proofs.Within.{good_within}
use Rattle.plan_form.proofs.laws.good_plan_is_within_limits.Goals as goal

pub returns : goal.returns
returns c = good_within

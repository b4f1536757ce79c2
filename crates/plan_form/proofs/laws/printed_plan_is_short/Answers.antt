use Rattle.rows.proofs.TextSizes.{text-fits}
use Rattle.plan_form.proofs.Sizes.{plan_short}
use Rattle.plan_form.proofs.laws.printed_plan_is_short.Goals as goal

pub returns : goal.returns
returns c = plan_short text-fits

use Rattle.rows.proofs.ReadBack.{read-printed}
use Rattle.plan_form.proofs.PrintedBack.{plan_read_back}
use Rattle.plan_form.proofs.laws.printed_plan_is_read_back.Goals as goal

pub returns : goal.returns
returns c = plan_read_back read-printed

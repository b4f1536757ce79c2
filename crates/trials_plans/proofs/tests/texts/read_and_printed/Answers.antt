use Rattle.std.proofs.Common.{arith}
use Rattle.plan_form.proofs.Numbering.{length-AreRowsOf}
use Rattle.trials_plans.proofs.tests.texts.read_and_printed.Goals as goal

pub plan_rows-requires : goal.plan_rows-requires
plan_rows-requires c = omega (arith, length-AreRowsOf _ _ c.in_ok-plan.ensures.read, c.len-count.ensures.len)

use Rattle.cert_check.proofs.NoFault.{no_fault}
use Rattle.tomo_run.proofs.Reported.{printed_is_reported_good}
use Rattle.tomo_run.proofs.laws.a_printed_plan_is_reported_good.Goals as goal

pub returns : goal.returns
returns c = printed_is_reported_good no_fault

use Rattle.cert_check.proofs.NoFault.{no_fault}
use Rattle.tomo_run.proofs.Reported.{chosen_is_reported_good}
use Rattle.tomo_run.proofs.laws.a_chosen_plan_is_reported_good.Goals as goal

pub returns : goal.returns
returns c = chosen_is_reported_good no_fault

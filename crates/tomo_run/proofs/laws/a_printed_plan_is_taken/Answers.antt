use Rattle.cert_check.proofs.NoFault.{no_fault}
use Rattle.tomo_run.proofs.Retaking.{printed_is_taken}
use Rattle.tomo_run.proofs.laws.a_printed_plan_is_taken.Goals as goal

pub returns : goal.returns
returns c = printed_is_taken no_fault

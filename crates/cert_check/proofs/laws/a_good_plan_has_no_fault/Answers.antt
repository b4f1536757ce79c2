use Rattle.cert_check.proofs.NoFault.{no_fault}
use Rattle.cert_check.proofs.laws.a_good_plan_has_no_fault.Goals as goal

pub returns : goal.returns
returns c = no_fault

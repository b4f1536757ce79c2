use Rattle.cert_check.proofs.NoFault.{no_fault}
use Rattle.tomo_run.proofs.Solving.{printed_names_no_path}
use Rattle.tomo_run.proofs.laws.a_printed_plan_names_no_path.Goals as goal

pub returns : goal.returns
returns c = printed_names_no_path no_fault

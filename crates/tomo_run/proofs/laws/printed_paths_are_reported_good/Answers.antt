use Rattle.cert_check.proofs.NoFault.{no_fault}
use Rattle.tomo_run.proofs.Reported.{paths_are_reported_good}
use Rattle.tomo_run.proofs.laws.printed_paths_are_reported_good.Goals as goal

pub returns : goal.returns
returns c = paths_are_reported_good no_fault

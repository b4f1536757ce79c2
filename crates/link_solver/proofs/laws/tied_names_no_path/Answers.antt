use Rattle.link_solver.proofs.Agreeing as agreeing
use Rattle.link_solver.proofs.laws.tied_names_no_path.Goals as goal

pub returns : goal.returns
returns c = agreeing.tied_names_no_path

use Rattle.link_solver.proofs.Solving as solving
use Rattle.link_solver.proofs.laws.one_or_none.Goals as goal

pub returns : goal.returns
returns c = solving.one_or_none

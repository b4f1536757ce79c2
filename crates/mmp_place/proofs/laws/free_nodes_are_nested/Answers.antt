use Rattle.mmp_place.proofs.Placing.{free_nodes_are_nested}
use Rattle.mmp_place.proofs.laws.free_nodes_are_nested.Goals as goal

pub returns : goal.returns
returns c = free_nodes_are_nested

use Rattle.std.proofs.Common.{arith}
use Rattle.tomo_base.proofs.Ascending.{length-node_set}
use Rattle.tomo_base.proofs.node_set.NodeSet.len.Goals as goal

pub overflow_cast-result : goal.overflow_cast-result
overflow_cast-result c = let few = length-node_set c.self.inside.nodes.items c.self.invariant in omega (arith, few, c.self.inside.nodes.ok.0, c.len.ensures)

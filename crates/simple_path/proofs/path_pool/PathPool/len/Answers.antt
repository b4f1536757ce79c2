use Rattle.std.proofs.Common.{arith}
use Rattle.simple_path.proofs.Regions.{nodes_all}
use Rattle.simple_path.proofs.path_pool.PathPool.len.Goals as goal

pub returns-clause-few_nodes : goal.returns-clause-few_nodes
returns-clause-few_nodes c = rw (← c.self.view_is) (omega (arith, nodes_all c.self.inside.nodes.items c.self.inside.spans.items c.self.invariant, c.self.invariant.few_nodes))

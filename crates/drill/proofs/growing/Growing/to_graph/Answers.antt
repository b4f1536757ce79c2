use Rattle.std.proofs.Common.{◌∙◌}
use Rattle.tomo_base.proofs.Graphs.{no_fault, graph_is}
use Rattle.drill.proofs.growing.Growing.to_graph.Goals as goal

pub unreachable-requires : goal.unreachable-requires
unreachable-requires c = c.in_default.not-NoMemory (no_fault c.self.inside.node_count c.self.inside.so_far.items c.in-Err.fault c.self.invariant.graph (rw c.deref.ensures.value at c.in-Err.ensures.fault))

pub returns-in-Ok : goal.returns-in-Ok
returns-in-Ok c = graph_is c.self.inside.node_count c.self.inside.so_far.items c.in-Ok.graph c.self.invariant.graph c.in-Ok.ensures.nodes (rw c.deref.ensures.value at c.in-Ok.ensures.links) ∙ c.self.view_is

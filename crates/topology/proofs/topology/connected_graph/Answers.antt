use Rattle.tomo_base.proofs.Graphs.{no_fault, graph_is}
use Rattle.topology.proofs.Ending.{found_apart}
use Rattle.topology.proofs.topology.connected_graph.Goals as goal

pub unreachable-requires : goal.unreachable-requires
unreachable-requires c = c.in_default.not-NoMemory (no_fault c.args.nodes c.args.links.now c.in-Err.fault c.requires.links c.in-Err.ensures.fault)

pub returns-in-None-clause-graph : goal.returns-in-None-clause-graph
returns-in-None-clause-graph c = graph_is c.args.nodes c.args.links.now c.in-Ok.graph c.requires.links c.in-Ok.ensures.nodes c.in-Ok.ensures.links

pub returns-in-Some-clause-fault : goal.returns-in-Some-clause-fault
returns-in-Some-clause-fault c = (
  c.requires.some_nodes,
  rw (← graph_is c.args.nodes c.args.links.now c.in-Ok.graph c.requires.links c.in-Ok.ensures.nodes c.in-Ok.ensures.links)
      (found_apart c.in-Ok.graph c.in_ok-first_apart.field-0 c.in-Some.v c.in-Some.is c.in_ok-first_apart.ensures.node c.in_ok-first_apart.ensures.apart c.in_ok-first_apart.ensures.least),
)

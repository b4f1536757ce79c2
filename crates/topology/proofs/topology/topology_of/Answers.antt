use Rattle.std.proofs.Common.{arith}
use Rattle.topology.proofs.Ending.{draft_is_topology}
use Rattle.topology.proofs.topology.topology_of.Goals as goal

pub invariant_of-result : goal.invariant_of-result
invariant_of-result c = draft_is_topology c.args.draft.names c.args.draft.links c.in_ok-graph.graph c.requires (omega (arith, c.len-nodes.ensures, c.if-nodes-lt3.false))
    (rw (c.len-nodes.ensures, c.deref.ensures.value, c.in_ok-links.ensures) at c.in_ok-graph.ensures.graph) c.in_ok-graph.ensures.connected

pub returns-clause-kept : goal.returns-clause-kept
returns-clause-kept c = draft_is_topology c.args.draft.names c.args.draft.links c.in_ok-graph.graph c.requires (omega (arith, c.len-nodes.ensures, c.if-nodes-lt3.false))
    (rw (c.len-nodes.ensures, c.deref.ensures.value, c.in_ok-links.ensures) at c.in_ok-graph.ensures.graph) c.in_ok-graph.ensures.connected

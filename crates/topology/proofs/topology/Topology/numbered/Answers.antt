use Rattle.topology.proofs.Decimals.{numbered_is_topology}
use Rattle.topology.proofs.topology.Topology.numbered.Goals as goal

pub invariant_of-result : goal.invariant_of-result
invariant_of-result c = rw (c.in-Ok.ensures, c.nodes.ensures.nodes) (numbered_is_topology c.args.g c.nodes.ensures.graph c.requires.connected c.requires.some_nodes c.requires.few_nodes c.requires.few_links)

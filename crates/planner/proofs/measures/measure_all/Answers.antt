use Rattle.topology.proofs.Extending.{extendable}
use Rattle.planner.proofs.measures.measure_all.Goals as goal

pub trees-requires-clause-few_links : goal.trees-requires-clause-few_links
trees-requires-clause-few_links c = rw c.graph-g.ensures.graph (extendable _ c.args.m.now c.graph-g.ensures.topology c.as_slice-ascending.ensures.ascending c.requires.nodes)

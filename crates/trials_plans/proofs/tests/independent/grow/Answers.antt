use Rattle.topology.proofs.Extending.{extendable}
use Rattle.trials_plans.proofs.tests.independent.grow.Goals as goal

pub trees-requires-clause-few_links : goal.trees-requires-clause-few_links
trees-requires-clause-few_links c =
    let placed = rw c.graph-g.ensures.graph at c.in_ok-monitors.ensures in
    rw c.graph-g.ensures.graph (extendable c.args.t.now c.in_ok-monitors.monitors c.graph-g.ensures.topology placed.ascending placed.nodes)

pub trees-requires-clause-identifies : goal.trees-requires-clause-identifies
trees-requires-clause-identifies c = c.in_ok-monitors.ensures.lowest.identifies

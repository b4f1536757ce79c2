use Rattle.std.proofs.Common.{◌<◌, All}
use Rattle.topology.proofs.Extending.{extendable}
use Rattle.answers.proofs.growing.tell_trees.Goals as goal

pub trees-requires-clause-few_links : goal.trees-requires-clause-few_links
trees-requires-clause-few_links c =
    let below : All (λ v. v < c.args.topology.now.graph.nodes) c.in_ok-monitors.monitors = rw c.graph-g.ensures.graph at c.in_ok-monitors.ensures.nodes in
    rw c.graph-g.ensures.graph (extendable c.args.topology.now c.in_ok-monitors.monitors c.graph-g.ensures.topology c.in_ok-monitors.ensures.ascending below)

use Rattle.std.proofs.Common.{◌≡◌, ◌<◌, ap, sym, arith, length}
use Rattle.tomo_base.proofs.graph.Graph.hops.Goals as goal

pub returns : goal.returns
returns c =
    let nodes : c.args.self.now.nodes ≡ c.self.inside.node_count = ap (λ g. g.nodes) (sym c.self.view_is) in
    let here : c.args.v < length c.self.inside.hops.items = omega (arith, nodes, c.requires, c.self.invariant.one_each) in
    rw (← c.self.view_is, c.deref.ensures.value, c.index.ensures) (c.self.invariant.hops c.args.v _ here)

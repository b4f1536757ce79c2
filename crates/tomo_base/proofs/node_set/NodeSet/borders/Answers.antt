use Rattle.std.proofs.Common.{◌≡◌, ◌∙◌, false, sym}
use Rattle.tomo_base.specs.Sets.{has}
use Rattle.tomo_base.proofs.Touching.{touches-hops}
use Rattle.tomo_base.proofs.node_set.NodeSet.borders.Goals as goal

pub returns-then-not-has : goal.returns-then-not-has
returns-then-not-has c =
    let apart : has c.args.self.now c.args.v ≡ false = sym c.has.ensures ∙ c.if-not-has.true in
    rw apart (c.leads_into.ensures ∙ touches-hops c.args.g.now (has c.args.self.now) c.args.v c.hops.result.now c.nodes-nodes.ensures.graph c.hops.ensures)

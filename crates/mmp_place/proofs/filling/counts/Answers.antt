use Rattle.std.proofs.Common.{sym, ◌∙◌}
use Rattle.tomo_base.specs.Sets.{has, complement}
use Rattle.tomo_base.proofs.Touching.{touches-hops}
use Rattle.mmp_place.proofs.filling.counts.Goals as goal

pub returns-else-has : goal.returns-else-has
returns-else-has c =
    rw (sym c.has.ensures ∙ c.if-has.false) (c.leads_out.ensures ∙ touches-hops c.args.g.now (complement (has c.args.set.now)) c.args.v c.hops.result.now c.nodes-nodes.ensures.graph c.hops.ensures)

use Rattle.std.proofs.Common.{inr}
use Rattle.tomo_base.specs.declared.graph.Hop.{Hop}
use Rattle.tomo_base.proofs.Rows.{hop_linked}
use Rattle.indep_trees.proofs.shortening.nearest.Goals.{then-is_below+then-steps_from, else-is_below}
use Rattle.indep_trees.proofs.shortening.nearest.Goals as goal

pub loop-hop-preserved : goal.loop-hop-preserved
loop-hop-preserved c =
    let e : Hop = record { node = 0; link = 0 } in
    let link = hop_linked c.args.g.now c.args.v c.hops-hop-items.result.now c.loop-hop.hop-index e c.hops-hop-items.ensures c.loop-hop-test.true in
    elim c.if-is_below.branch [
      | then-is_below+then-steps_from w ↦ rw w.best-is (inr (link, c.is_below.ensures.number w.if-is_below.true, c.is_below.ensures.ear w.if-is_below.true))
      | else-is_below w ↦ rw w.best-is c.loop-hop.invariant
    ]

use Rattle.std.proofs.Common.{length, refl}
use Rattle.tomo_base.specs.declared.graph.Hop.{Hop}
use Rattle.tomo_base.proofs.Rows.{hops_below}
use Rattle.ear_order.proofs.Reaching.{seeding_none, seeding_past, seeding_more, seeding_done}
use Rattle.ear_order.proofs.paths.seeds.Goals as goal
use Rattle.ear_order.proofs.paths.seeds.Goals.{then-zone-hop+in_ok-push, else-zone-hop}

pub loop-hop-init : goal.loop-hop-init
loop-hop-init c = rw c.new-seeds.ensures.items (seeding_none _ _ _ _)

pub bounds-zone-hop : goal.bounds-zone-hop
bounds-zone-hop c = hops_below c.args.g.now c.args.e c.hops-hop-items.result.now (length c.args.zone.now) c.nodes-nodes.ensures.graph c.hops-hop-items.ensures c.requires.zone c.loop-hop.hop-index _ c.loop-hop-test.true

pub loop-hop-preserved : goal.loop-hop-preserved
loop-hop-preserved c =
    let e : Hop = record { node = 0; link = 0 } in
    elim c.if-zone-hop.branch [
      | then-zone-hop+in_ok-push w ↦ rw (w.seeds-is, w.in_ok-push.ensures.items) (seeding_more _ _ _ _ _ _ _ e c.hops-hop-items.ensures c.loop-hop-test.true refl w.if-zone-hop.true c.loop-hop.invariant)
      | else-zone-hop w ↦ rw w.seeds-is (seeding_past _ _ _ _ _ _ e c.loop-hop-test.true w.if-zone-hop.false c.loop-hop.invariant)
    ]

pub returns : goal.returns
returns c = seeding_done _ _ _ _ _ _ c.hops-hop-items.ensures c.loop-hop-test.false c.loop-hop.invariant

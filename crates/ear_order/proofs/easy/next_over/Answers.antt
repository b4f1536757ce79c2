use Rattle.std.proofs.Common.{length, refl}
use Rattle.tomo_base.specs.declared.graph.Hop.{Hop}
use Rattle.tomo_base.proofs.Rows.{hops_below, hop_linked}
use Rattle.ear_order.proofs.easy.next_over.Goals as goal
use Rattle.ear_order.proofs.easy.next_over.Goals.{then-w-u+then-not-gone-w+then-has_lower+then-is_spared+else-is_some, else-w-u}

pub bounds-gone-w : goal.bounds-gone-w
bounds-gone-w c = hops_below c.args.g.now c.args.end c.hops-hop-items.result.now (length c.args.gone.now) c.nodes-n.ensures.graph c.hops-hop-items.ensures c.requires.gone c.loop-hop.hop-index _ c.loop-hop-test.true

pub is_spared-requires-clause-node : goal.is_spared-requires-clause-node
is_spared-requires-clause-node c = hops_below c.args.g.now c.args.end c.hops-hop-items.result.now c.args.g.now.nodes c.nodes-n.ensures.graph c.hops-hop-items.ensures refl c.loop-hop.hop-index _ c.loop-hop-test.true

pub near-requires-clause-node : goal.near-requires-clause-node
near-requires-clause-node c = hops_below c.args.g.now c.args.end c.hops-hop-items.result.now c.args.g.now.nodes c.nodes-n.ensures.graph c.hops-hop-items.ensures refl c.loop-hop.hop-index _ c.loop-hop-test.true

pub returns-then-is_some : goal.returns-then-is_some
returns-then-is_some c =
    let e : Hop = record { node = 0; link = 0 } in
    record { link = hop_linked c.args.g.now c.args.end c.hops-hop-items.result.now c.loop-hop.hop-index e c.hops-hop-items.ensures c.loop-hop-test.true; is_left = c.if-not-gone-w.true; other = c.if-w-u.true }

pub loop-hop-preserved : goal.loop-hop-preserved
loop-hop-preserved c =
    let e : Hop = record { node = 0; link = 0 } in
    elim c.if-w-u.branch [
      | then-w-u+then-not-gone-w+then-has_lower+then-is_spared+else-is_some w ↦
          rw w.any-is (record { link = hop_linked c.args.g.now c.args.end c.hops-hop-items.result.now c.loop-hop.hop-index e c.hops-hop-items.ensures c.loop-hop-test.true; is_left = w.if-not-gone-w.true; other = w.if-w-u.true })
      | else-w-u w ↦ rw w.any-is c.loop-hop.invariant
    ]

use Rattle.std.proofs.Common.{refl, ◌∙◌, arith, length-set}
use Rattle.tomo_base.specs.declared.graph.Hop.{Hop}
use Rattle.tomo_base.specs.Search.{mark_of}
use Rattle.tomo_base.proofs.Rows.{hops_below}
use Rattle.ear_order.proofs.Turning.{clearing_none, clearing_more, clearing_done}
use Rattle.ear_order.proofs.turns.clear_near.Goals as goal

pub loop-hop-init : goal.loop-hop-init
loop-hop-init c = (length-set c.args.marks.now.items c.args.v _ ∙ c.requires.marks, clearing_none c.args.marks.now.items c.args.v c.hops-hop-items.result.now (omega (arith, c.requires.node, c.requires.marks)))

pub index_mut-requires-in-loop-hop : goal.index_mut-requires-in-loop-hop
index_mut-requires-in-loop-hop c =
    let e : Hop = record { node = 0; link = 0 } in
    omega (arith, hops_below c.args.g.now c.args.v c.hops-hop-items.result.now c.args.g.now.nodes c.nodes-nodes.ensures.graph c.hops-hop-items.ensures refl c.loop-hop.hop-index e c.loop-hop-test.true, c.loop-hop.invariant.0, c.loop-hop.marks.ok)

pub loop-hop-preserved : goal.loop-hop-preserved
loop-hop-preserved c =
    let e : Hop = record { node = 0; link = 0 } in (
      length-set c.loop-hop.marks.items _ _ ∙ c.loop-hop.invariant.0,
      clearing_more (mark_of c.args.marks.now.items) c.loop-hop.marks.items c.args.v _ c.hops-hop-items.result.now c.loop-hop.hop-index e c.loop-hop-test.true refl
          (omega (arith, hops_below c.args.g.now c.args.v c.hops-hop-items.result.now c.args.g.now.nodes c.nodes-nodes.ensures.graph c.hops-hop-items.ensures refl c.loop-hop.hop-index e c.loop-hop-test.true, c.loop-hop.invariant.0))
          c.loop-hop.invariant.1,
    )

pub returns-clause-cleared : goal.returns-clause-cleared
returns-clause-cleared c = clearing_done c.args.g.now c.args.v (mark_of c.args.marks.now.items) (mark_of c.loop-hop.marks.items) c.hops-hop-items.result.now c.loop-hop.hop-index c.hops-hop-items.ensures c.loop-hop-test.false
    (omega (arith, c.loop-hop.auto.hop-index-end)) c.loop-hop.invariant.1

use Rattle.std.proofs.Common.{◌≡◌, ◌<◌, false, length, get_or, sym, subst, ◌∙◌, arith}
use Rattle.tomo_base.specs.declared.graph.Hop.{Hop}
use Rattle.tomo_base.specs.Search.{mark_of, entry_at}
use Rattle.tomo_base.proofs.Rows.{hops_below, hop_linked, linked_hop}
use Rattle.ear_order.proofs.sparing.has_lower.Goals as goal

pub bounds-gone-y : goal.bounds-gone-y
bounds-gone-y c = hops_below c.args.g.now c.args.x c.hops-hop-items.result.now (length c.args.gone.now) c.nodes-nodes.ensures.graph c.hops-hop-items.ensures c.requires.gone c.loop-hop.hop-index _ c.loop-hop-test.true

pub bounds-rank-y : goal.bounds-rank-y
bounds-rank-y c = hops_below c.args.g.now c.args.x c.hops-hop-items.result.now (length c.args.rank.now) c.nodes-nodes.ensures.graph c.hops-hop-items.ensures c.requires.ranks c.loop-hop.hop-index _ c.loop-hop-test.true

pub returns-then-y-w-clause-yes : goal.returns-then-y-w-clause-yes
returns-then-y-w-clause-yes c = λ yes.
    let e : Hop = record { node = 0; link = 0 } in (
      (get_or c.hops-hop-items.result.now c.loop-hop.hop-index e).node,
      hop_linked c.args.g.now c.args.x c.hops-hop-items.result.now c.loop-hop.hop-index e c.hops-hop-items.ensures c.loop-hop-test.true,
      c.if-not-gone-y.true,
      c.if-rank-y.true,
      c.if-y-w.true,
    )

pub returns-clause-no : goal.returns-clause-no
returns-clause-no c = λ no y.
    let d : Hop = record { node = 0; link = 0 } in
    let k = linked_hop c.args.g.now c.args.x y.0 c.hops-hop-items.result.now c.hops-hop-items.ensures y.1 in
    let before : k.0 < c.loop-hop.hop-index = omega (arith, k.1, c.loop-hop-test.false, c.loop-hop.auto.hop-index-end) in
    let at : (get_or c.hops-hop-items.result.now k.0 d).node ≡ y.0 = k.2 d in
    c.loop-hop.invariant k.0 d before (subst (λ z. mark_of c.args.gone.now z ≡ false) (sym at) y.2) (subst (λ z. entry_at c.args.rank.now z < c.args.below) (sym at) y.3)
    (λ same. y.4 (sym at ∙ same))

use Rattle.std.proofs.Common.{◌<◌, get_or, refl}
use Rattle.std.proofs.lemmas.List.Elements.{All-push}
use Rattle.tomo_base.specs.declared.graph.Hop.{Hop}
use Rattle.tomo_base.proofs.Rows.{hops_below}
use Rattle.ear_order.proofs.sparing.add_near.Goals as goal

pub loop-hop-preserved : goal.loop-hop-preserved
loop-hop-preserved c =
    let e : Hop = record { node = 0; link = 0 } in
    let n = c.args.g.now.nodes in
    let v = (get_or c.hops-hop-items.result.now c.loop-hop.hop-index e).node in
    let below : v < n = hops_below c.args.g.now c.args.v c.hops-hop-items.result.now n c.nodes-nodes.ensures.graph c.hops-hop-items.ensures refl c.loop-hop.hop-index e c.loop-hop-test.true in
    rw c.in_ok-push.ensures.items (All-push (λ w. w < n) c.loop-hop.nodes.items v c.loop-hop.invariant below)

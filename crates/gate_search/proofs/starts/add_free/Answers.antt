use Rattle.std.proofs.Common.{◌<◌, length, get_or}
use Rattle.std.proofs.lemmas.List.Elements.{All-push}
use Rattle.tomo_base.specs.declared.graph.Hop.{Hop}
use Rattle.tomo_base.proofs.Rows.{hops_below}
use Rattle.gate_search.proofs.starts.add_free.Goals as goal
use Rattle.gate_search.proofs.starts.add_free.Goals.{then-free-hop+in_ok-push, else-free-hop}

pub bounds-free-hop : goal.bounds-free-hop
bounds-free-hop c = hops_below c.args.g.now c.args.u c.hops-hop-items.result.now (length c.args.free.now) c.nodes-count.ensures.graph c.hops-hop-items.ensures c.requires.free c.loop-hop.hop-index _ c.loop-hop-test.true

pub loop-hop-preserved : goal.loop-hop-preserved
loop-hop-preserved c =
    let e : Hop = record { node = 0; link = 0 } in
    let v = (get_or c.hops-hop-items.result.now c.loop-hop.hop-index e).node in
    let below : v < length c.args.free.now = hops_below c.args.g.now c.args.u c.hops-hop-items.result.now (length c.args.free.now) c.nodes-count.ensures.graph c.hops-hop-items.ensures c.requires.free c.loop-hop.hop-index e c.loop-hop-test.true in
    elim c.if-free-hop.branch [
      | then-free-hop+in_ok-push w ↦ rw (w.starts-is, w.in_ok-push.ensures.items) (All-push (λ u. u < length c.args.free.now) c.loop-hop.starts.items v c.loop-hop.invariant below)
      | else-free-hop w ↦ rw w.starts-is c.loop-hop.invariant
    ]

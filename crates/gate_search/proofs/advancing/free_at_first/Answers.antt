use Rattle.std.proofs.Common.{◌≡◌, refl, false, get_or, arith, length-set, subst, ◌∙◌}
use Rattle.tomo_base.specs.declared.graph.Hop.{Hop}
use Rattle.tomo_base.specs.Search.{mark_of}
use Rattle.gate_search.proofs.Holding.{hop_freed, held_first}
use Rattle.tomo_base.proofs.Rows.{hops_below, linked_hop}
use Rattle.gate_search.proofs.advancing.free_at_first.Goals as goal

pub index_mut-requires-in-loop-hop : goal.index_mut-requires-in-loop-hop
index_mut-requires-in-loop-hop c =
    let room = hops_below c.args.g.now c.args.root c.hops-hop-items.result.now c.args.g.now.nodes c.nodes-count.ensures.graph c.hops-hop-items.ensures refl c.loop-hop.hop-index (record { node = 0; link = 0 }) c.loop-hop-test.true in
    omega (arith, room, c.loop-hop.invariant.size, c.loop-hop.free.ok)

pub loop-hop-preserved : goal.loop-hop-preserved
loop-hop-preserved c =
    let e : Hop = record { node = 0; link = 0 } in
    let hops = c.hops-hop-items.result.now in
    let free = c.loop-hop.free.items in
    let room = hops_below c.args.g.now c.args.root hops c.args.g.now.nodes c.nodes-count.ensures.graph c.hops-hop-items.ensures refl c.loop-hop.hop-index e c.loop-hop-test.true in
    let next = hop_freed c.args.g.now c.args.root c.args.nodes.now hops free c.loop-hop.hop-index e c.hops-hop-items.ensures c.loop-hop-test.true (omega (arith, room, c.loop-hop.invariant.size)) c.loop-hop.invariant.root c.loop-hop.invariant.inside c.loop-hop.invariant.near c.loop-hop.invariant.only in
    record {
      size = length-set free (get_or hops c.loop-hop.hop-index e).node false ∙ c.loop-hop.invariant.size;
      root = next.0;
      inside = next.1;
      near = next.2;
      only = next.3;
    }

pub returns-clause-grown : goal.returns-clause-grown
returns-clause-grown c =
    let inv = c.loop-hop.invariant in λ base within.
    held_first c.args.g.now base c.args.root (mark_of c.args.nodes.now) (mark_of c.loop-hop.free.items) within c.requires.root inv.root inv.inside
    (λ v l.
    let at = linked_hop c.args.g.now c.args.root v c.hops-hop-items.result.now c.hops-hop-items.ensures l in
    let e : Hop = record { node = 0; link = 0 } in
    subst (λ z. mark_of c.loop-hop.free.items z ≡ false) (at.2 e) (inv.near at.0 e (omega (arith, at.1, c.loop-hop-test.false))))
    inv.only

use Rattle.std.proofs.Common.{◌≡◌, refl, true, get_or, inl, inr, arith, sym, ◌∙◌, subst, length-set}
use Rattle.tomo_base.specs.declared.graph.Hop.{Hop}
use Rattle.tomo_base.specs.Search.{mark_of}
use Rattle.tomo_base.proofs.Rows.{hops_below, linked_hop}
use Rattle.three_conn.proofs.Holding.{held_first}
use Rattle.three_conn.proofs.Marking.{hop_marked}
use Rattle.three_conn.proofs.known.begin.Goals as goal

pub index_mut-requires-in-loop-hop : goal.index_mut-requires-in-loop-hop
index_mut-requires-in-loop-hop c =
    let room = hops_below c.args.g.now c.args.root c.hops-hop-items.result.now c.args.g.now.nodes c.nodes.ensures.graph c.hops-hop-items.ensures refl c.loop-hop.hop-index (record { node = 0; link = 0 }) c.loop-hop-test.true in
    omega (arith, room, c.loop-hop.invariant.size, c.loop-hop.held.ok)

pub loop-hop-preserved : goal.loop-hop-preserved
loop-hop-preserved c =
    let e : Hop = record { node = 0; link = 0 } in
    let hops = c.hops-hop-items.result.now in
    let room = hops_below c.args.g.now c.args.root hops c.args.g.now.nodes c.nodes.ensures.graph c.hops-hop-items.ensures refl c.loop-hop.hop-index e c.loop-hop-test.true in
    let next = hop_marked c.args.g.now c.args.root hops c.loop-hop.held.items c.loop-hop.hop-index e c.hops-hop-items.ensures c.loop-hop-test.true (omega (arith, room, c.loop-hop.invariant.size)) c.loop-hop.invariant.root c.loop-hop.invariant.near c.loop-hop.invariant.only in
    record {
      size = length-set c.loop-hop.held.items (get_or hops c.loop-hop.hop-index e).node true ∙ c.loop-hop.invariant.size;
      root = next.0;
      near = next.1;
      only = next.2;
    }

pub returns-clause-known : goal.returns-clause-known
returns-clause-known c =
    let hops = c.hops-hop-items.result.now in
    record {
      marks = c.loop-hop.invariant.size;
      held = held_first c.args.g.now (mark_of c.args.nodes.now) (mark_of c.loop-hop.held.items) c.args.root c.requires.root (λ v. (
        c.loop-hop.invariant.only v,
        λ is. elim is [
          | inl same ↦ subst (λ z. mark_of c.loop-hop.held.items z ≡ true) (sym same) c.loop-hop.invariant.root
          | inr l ↦
              let at = linked_hop c.args.g.now c.args.root v hops c.hops-hop-items.ensures l in
              let e : Hop = record { node = 0; link = 0 } in
              subst (λ z. mark_of c.loop-hop.held.items z ≡ true) (at.2 e) (c.loop-hop.invariant.near at.0 e (omega (arith, at.1, c.loop-hop-test.false)))
        ],
      ));
    }

use Rattle.std.proofs.Common.{◌≡◌, ◌<◌, ◌≤◌, ◌∙◌, length, slice_index_or, arith, refl, sym}
use Rattle.std.proofs.lemmas.Bool.{both_ways}
use Rattle.std.proofs.lemmas.List.{get_or_default, get_or_append_left, length_push}
use Rattle.tomo_base.specs.declared.graph.Hop.{Hop}
use Rattle.tomo_base.specs.Search.{entry_at}
use Rattle.tomo_base.proofs.Rows.{hops_below}
use Rattle.tomo_base.proofs.Looking.{looking_past, looking_more, looking_done}
use Rattle.tomo_base.proofs.search.look.Goals as goal
use Rattle.tomo_base.proofs.search.look.Goals.{then-free-hop+then-index-n+in_ok-reach, else-free-hop, else-free-hop-via-then-free-hop+else-index-n, else-free-hop-via-else-free-hop}

pub loop-hop-init : goal.loop-hop-init
loop-hop-init c = record {
  looking = record {
    ranks = c.requires.ranks;
    parents = c.requires.parents;
    place = c.requires.place;
    node = get_or_default c.args.found.now.order.items c.args.head 0 _ c.requires.place ∙ sym c.index-node.ensures;
    searches = λ seeds s. s;
    looked = λ k d l. absurd (omega arith);
  };
  longer = omega arith;
  kept = λ k l. refl;
}

pub bounds-free-hop : goal.bounds-free-hop
bounds-free-hop c = hops_below c.args.g.now c.index-node.result.now c.hops-hop-items.result.now (length c.args.free.now) c.nodes-n.ensures.graph c.hops-hop-items.ensures c.requires.marks c.loop-hop.hop-index _ c.loop-hop-test.true

pub loop-hop-preserved : goal.loop-hop-preserved
loop-hop-preserved c =
    let e : Hop = record { node = 0; link = 0 } in
    let n = c.args.g.now.nodes in
    let rank = c.loop-hop.found.rank.items in
    let ranks = c.loop-hop.invariant.looking.ranks in
    let node = (slice_index_or c.hops-hop-items.result.now c.loop-hop.hop-index e).node in
    let below : node < n = hops_below c.args.g.now c.index-node.result.now c.hops-hop-items.result.now n c.nodes-n.ensures.graph c.hops-hop-items.ensures refl c.loop-hop.hop-index e c.loop-hop-test.true in
    let room : node < length rank = omega (arith, below, ranks.one_each) in
    elim c.if-free-hop.branch [
      | then-free-hop+then-index-n+in_ok-reach w ↦
          let rank_is : entry_at rank node ≡ w.index.result.now = get_or_default rank node 0 _ room ∙ sym w.index.ensures in
          let bare : n ≤ entry_at rank node = omega (arith, rank_is, w.if-index-n.true, c.nodes-n.ensures.nodes) in
          rw (w.found-is, w.in_ok-reach.ensures.order, w.in_ok-reach.ensures.parents, w.in_ok-reach.ensures.ranks) (record {
            looking = looking_more _ _ _ _ _ _ _ node _ e c.nodes-n.ensures.graph c.hops-hop-items.ensures c.loop-hop-test.true refl w.if-free-hop.true bare c.loop-hop.invariant.looking;
            longer = omega (arith, c.loop-hop.invariant.longer, length_push c.loop-hop.found.order.items node);
            kept = λ k l. get_or_append_left c.loop-hop.found.order.items _ 0 k (omega (arith, l, c.loop-hop.invariant.longer)) ∙ c.loop-hop.invariant.kept k l;
          })
      | else-free-hop w ↦ rw w.found-is (record {
        looking = elim w.else-free-hop.branch [
          | else-free-hop-via-then-free-hop+else-index-n x ↦
              let rank_is : entry_at rank node ≡ x.index.result.now = get_or_default rank node 0 _ room ∙ sym x.index.ensures in
              let ranked : entry_at rank node < n = omega (arith, rank_is, x.if-index-n.false, ranks.most node below, c.nodes-n.ensures.nodes) in
              looking_past _ _ _ _ _ _ _ _ e c.loop-hop-test.true (λ is_free. ranked) c.loop-hop.invariant.looking
          | else-free-hop-via-else-free-hop x ↦ looking_past _ _ _ _ _ _ _ _ e c.loop-hop-test.true (λ is_free. absurd (both_ways _ x.if-free-hop.false is_free)) c.loop-hop.invariant.looking
        ];
        longer = c.loop-hop.invariant.longer;
        kept = c.loop-hop.invariant.kept;
      })
    ]

pub returns-clause-searched : goal.returns-clause-searched
returns-clause-searched c =
    let all : c.loop-hop.hop-index ≡ length c.hops-hop-items.result.now = omega (arith, c.loop-hop-test.false, c.loop-hop.auto.hop-index-end) in
    λ seeds before. looking_done c.args.g.now c.args.free.now c.args.head _ c.hops-hop-items.result.now c.index-node.result.now _ seeds c.hops-hop-items.ensures (rw all at c.loop-hop.invariant.looking) before

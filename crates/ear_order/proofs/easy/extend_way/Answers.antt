use Rattle.std.proofs.Common.{◌≡◌, ◌-◌, ◌<◌, true, length, subst, ap, ◌∙◌, length-set, arith}
use Rattle.std.proofs.lemmas.List.{get_or_read}
use Rattle.tomo_base.specs.Search.{mark_of, entry_at}
use Rattle.tomo_base.proofs.Links.{linked_below}
use Rattle.ear_order.specs.Easy.{GoesOnTo}
use Rattle.ear_order.proofs.Ways.{way_below, way_more}
use Rattle.ear_order.proofs.easy.extend_way.Goals.{After-index-end}
use Rattle.ear_order.proofs.easy.extend_way.Goals as goal

-- the end of the way is a node
end_below : (c : After-index-end) → c.index-end.result.now < c.args.g.now.nodes
end_below c =
    let way = c.loop-i.way.items in
    let last : c.len.result ≡ length way = omega (arith, c.len.ensures, c.loop-i.way.ok) in
    let within : c.len.result - 1 < length way = omega (arith, last, c.loop-i.invariant.1.some) in
    rw (get_or_read way _ _ within c.index-end.ensures 0) (way_below c.args.g.now (mark_of c.args.old.now) c.args.u (mark_of c.loop-i.gone.items) way c.loop-i.invariant.1 c.nodes-nodes.ensures.graph (c.len.result - 1) within)

pub near-requires-clause-node : goal.near-requires-clause-node
near-requires-clause-node c = end_below (goal.at.near-requires-clause-node c).After-index-end

pub next_over-requires-clause-node : goal.next_over-requires-clause-node
next_over-requires-clause-node c = end_below (goal.at.next_over-requires-clause-node c).After-index-end

pub index_mut-requires : goal.index_mut-requires
index_mut-requires c =
    let below = linked_below c.args.g.now.nodes c.args.g.now.links c.index-end.result.now c.in-Some-next_over.w c.nodes-nodes.ensures.graph c.in-Some-next_over.ensures.link in
    omega (arith, below.1, c.loop-i.invariant.0, c.loop-i.gone.ok)

pub loop-i-preserved : goal.loop-i-preserved
loop-i-preserved c =
    let g = c.args.g.now in
    let way = c.loop-i.way.items in
    let gone = c.loop-i.gone.items in
    let w = c.in-Some-next_over.w in
    let last : c.len.result ≡ length way = omega (arith, c.len.ensures, c.loop-i.way.ok) in
    let within : c.len.result - 1 < length way = omega (arith, last, c.loop-i.invariant.1.some) in
    let end : c.index-end.result.now ≡ entry_at way (length way - 1) = get_or_read way _ _ within c.index-end.ensures 0 ∙ ap (λ k. entry_at way (k - 1)) last in
    let next : GoesOnTo g (mark_of gone) c.args.u (entry_at way (length way - 1)) w =
    subst (λ z. GoesOnTo g (mark_of gone) c.args.u z w) end (subst (λ xs. GoesOnTo g (mark_of xs) c.args.u c.index-end.result.now w) c.deref.ensures.value c.in-Some-next_over.ensures) in
    let below = linked_below g.nodes g.links c.index-end.result.now w c.nodes-nodes.ensures.graph c.in-Some-next_over.ensures.link in (
      length-set gone w true ∙ c.loop-i.invariant.0,
      rw c.in_ok-push.ensures.items (way_more g (mark_of c.args.old.now) c.args.u gone way w c.loop-i.invariant.1 next (omega (arith, below.1, c.loop-i.invariant.0))),
    )

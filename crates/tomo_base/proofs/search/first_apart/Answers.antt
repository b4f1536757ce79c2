use Rattle.std.proofs.Common.{◌≡◌, ◌<◌, ◌∙◌, length, true, replicate, arith, inl, inr, sym, ap}
use Rattle.std.proofs.lemmas.Bool.{cases_eq}
use Rattle.std.proofs.lemmas.List.{get_or_default, get_or-replicate}
use Rattle.tomo_base.specs.Search.{mark_of, entry_at}
use Rattle.tomo_base.proofs.Reached.{ranked_reached, unranked_apart, connected_from}
use Rattle.tomo_base.proofs.search.first_apart.Goals as goal

pub returns-then-index-n-clause-apart : goal.returns-then-index-n-clause-apart
returns-then-index-n-clause-apart c =
    let g = c.args.g.now in
    let n = c.nodes-n.result in
    let rank = c.in_ok-found.found.rank.items in
    let lent : c.deref.result.now ≡ replicate n true = c.deref.ensures.value ∙ c.in_ok-free.ensures.items_if_clones_equal (λ y h. h) in
    let room : c.loop-v.v < length rank = omega (arith, c.loop-v-test.true, c.nodes-n.ensures.nodes, c.in_ok-found.ensures.ranks.one_each) in
    let rank_is : entry_at rank c.loop-v.v ≡ c.index.result.now = get_or_default rank c.loop-v.v 0 _ room ∙ sym c.index.ensures in
    unranked_apart g c.deref.result.now 0 c.loop-v.v _ _ _ c.nodes-n.ensures.graph c.in_ok-found.ensures (λ w l. ap (λ xs. mark_of xs w) lent ∙ get_or-replicate n w true _ (omega (arith, l, c.nodes-n.ensures.nodes)))
    (omega (arith, rank_is, c.if-index-n.true, c.nodes-n.ensures.nodes))

pub returns-then-index-n-clause-least : goal.returns-then-index-n-clause-least
returns-then-index-n-clause-least c = λ w l. ranked_reached c.args.g.now c.deref.result.now _ 0 w _ _ _ c.nodes-n.ensures.graph c.in_ok-found.ensures (omega (arith, l, c.loop-v-test.true, c.nodes-n.ensures.nodes))
    (omega (arith, c.loop-v.invariant w l, c.nodes-n.ensures.nodes))

pub loop-v-preserved : goal.loop-v-preserved
loop-v-preserved c =
    let rank = c.in_ok-found.found.rank.items in
    let below : c.loop-v.v < c.args.g.now.nodes = omega (arith, c.loop-v-test.true, c.nodes-n.ensures.nodes) in
    let room : c.loop-v.v < length rank = omega (arith, below, c.in_ok-found.ensures.ranks.one_each) in
    let rank_is : entry_at rank c.loop-v.v ≡ c.index.result.now = get_or_default rank c.loop-v.v 0 _ room ∙ sym c.index.ensures in
    λ w l. elim (cases_eq w c.loop-v.v) [
      | inl same ↦ rw same (omega (arith, rank_is, c.if-index-n.false, c.in_ok-found.ensures.ranks.most c.loop-v.v below, c.nodes-n.ensures.nodes))
      | inr other ↦ c.loop-v.invariant w (omega arith)
    ]

pub returns-clause-none : goal.returns-clause-none
returns-clause-none c = connected_from c.args.g.now 0 (λ v l. ranked_reached c.args.g.now c.deref.result.now _ 0 v _ _ _ c.nodes-n.ensures.graph c.in_ok-found.ensures l
    (omega (arith, c.loop-v.invariant v (omega (arith, l, c.loop-v-test.false, c.loop-v.auto.v-end, c.nodes-n.ensures.nodes)), c.nodes-n.ensures.nodes)))

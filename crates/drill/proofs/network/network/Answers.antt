use Rattle.std.proofs.Common.{◌≡◌, length, ap, ◌∙◌, refl, arith}
use Rattle.std.proofs.lemmas.Result.{IfOk-weaker}
use Rattle.tomo_base.specs.Network.{Network}
use Rattle.drill.specs.Draws.{state}
use Rattle.drill.specs.Generated.{drawn_links}
use Rattle.drill.proofs.Growth.{IsGrown, grown_by, never_none, state_more, drawn_count}
use Rattle.drill.proofs.network.network.Goals as goal

pub loop-k-init : goal.loop-k-init
unfolding state drawn_links
loop-k-init c = (refl, c.in_ok-network.ensures)

-- the link that was found makes the network grow as it is drawn
grows : (c : goal.After-network-in-Some-1) → IsGrown c.args.draws.now c.args.n c.loop-k.k c.loop-k.network c.in-Some.link
grows c = grown_by c.args.draws.now c.args.n c.loop-k.k c.loop-k.draws c.loop-k.network c.next_link.result c.in-Some.link c.requires.some_nodes (omega (arith, c.loop-k-test.true, c.requires.room)) c.loop-k.invariant.0 c.loop-k.invariant.1 c.next_link.ensures.link c.in-Some.is

pub add-requires-clause-lower_first : goal.add-requires-clause-lower_first
add-requires-clause-lower_first c = (grows c).lower

pub add-requires-clause-node : goal.add-requires-clause-node
add-requires-clause-node c = (grows c).node

pub add-requires-clause-free : goal.add-requires-clause-free
add-requires-clause-free c = (grows c).free

pub unreachable-requires : goal.unreachable-requires
unreachable-requires c = never_none c.args.draws.now c.args.n c.loop-k.k c.loop-k.draws c.loop-k.network c.next_link.result c.requires.some_nodes (omega (arith, c.loop-k-test.true, c.requires.room)) c.loop-k.invariant.0 c.loop-k.invariant.1 c.next_link.ensures.link c.in-None.is

pub loop-k-preserved : goal.loop-k-preserved
loop-k-preserved c = (
  c.next_link.ensures.draws ∙ state_more c.args.draws.now c.loop-k.k c.loop-k.draws c.loop-k.invariant.0,
  (grown_by c.args.draws.now c.args.n c.loop-k.k c.loop-k.draws c.loop-k.network c.next_link.result c.in-Some.link c.requires.some_nodes (omega (arith, c.loop-k-test.true, c.requires.room)) c.loop-k.invariant.0 c.loop-k.invariant.1 c.next_link.ensures.link c.in-Some.is).more c.add.new.self c.in_ok-add-in-Some.ensures,
)

pub to_graph-requires : goal.to_graph-requires
to_graph-requires c = omega (arith, drawn_count c.args.draws.now c.args.n c.loop-k.k c.loop-k.network c.requires.some_nodes (omega (arith, c.loop-k.auto.k-end, c.requires.room)) c.loop-k.invariant.1, c.loop-k.auto.k-end, c.requires.few_links)

pub returns-clause-count : goal.returns-clause-count
returns-clause-count c =
    let count = drawn_count c.args.draws.now c.args.n c.loop-k.k c.loop-k.network c.requires.some_nodes (omega (arith, c.loop-k.auto.k-end, c.requires.room)) c.loop-k.invariant.1 in
    IfOk-weaker c.to_graph.result (λ g. g ≡ c.loop-k.network) (λ g. length g.links ≡ c.args.l) (λ g is. ap (λ (h : Network). length h.links) is ∙ omega (arith, count, c.loop-k.auto.k-end, c.loop-k-test.false)) c.to_graph.ensures

use Rattle.std.proofs.Common.{◌++◌, ◌+◌, refl, arith, length-append}
use Rattle.tomo_base.specs.Cuts.{hub_links}
use Rattle.tomo_base.proofs.Graphs.{no_fault, graph_is}
use Rattle.extended_graph.proofs.HubLinks.{hub_more, all_added, length-hub_links, extended_links}
use Rattle.extended_graph.proofs.extending.extend.Goals as goal

pub loop-v-preserved : goal.loop-v-preserved
loop-v-preserved c = rw (c.in_ok-push-2.ensures.items, c.in_ok-push.ensures.items)
    (hub_more c.args.g.now c.loop-v.links.items c.as_slice-v-items.result.now c.loop-v.v-index c.nodes-n.result _ c.loop-v-test.true refl c.nodes-n.ensures.nodes c.loop-v.invariant)

pub new-requires-clause-few_links : goal.new-requires-clause-few_links
new-requires-clause-few_links c =
    let all = all_added c.args.g.now c.args.m.now _ _ _ _ c.deref.ensures.value c.loop-v.invariant c.loop-v-test.false c.as_slice-v-items.ensures.nodes in
    rw all (omega (arith, length-append c.args.g.now.links (hub_links c.args.g.now.nodes c.args.m.now), length-hub_links c.args.g.now.nodes c.args.m.now, c.requires.few_links))

pub returns-in-Ok : goal.returns-in-Ok
returns-in-Ok c =
    let all = all_added c.args.g.now c.args.m.now _ _ _ _ c.deref.ensures.value c.loop-v.invariant c.loop-v-test.false c.as_slice-v-items.ensures.nodes in
    graph_is (c.args.g.now.nodes + 2) (c.args.g.now.links ++ hub_links c.args.g.now.nodes c.args.m.now) c.in-Ok.graph
    (extended_links c.args.g.now c.args.m.now c.nodes-n.ensures.graph c.as_slice-v-items.ensures.ascending c.requires.nodes)
    (omega (arith, c.in-Ok.ensures.nodes, c.nodes-n.ensures.nodes)) (rw all at c.in-Ok.ensures.links)

pub unreachable-requires : goal.unreachable-requires
unreachable-requires c =
    let all = all_added c.args.g.now c.args.m.now _ _ _ _ c.deref.ensures.value c.loop-v.invariant c.loop-v-test.false c.as_slice-v-items.ensures.nodes in
    c.in_default.not-NoMemory (no_fault (c.args.g.now.nodes + 2) (c.args.g.now.links ++ hub_links c.args.g.now.nodes c.args.m.now) c.in-Err.fault
    (extended_links c.args.g.now c.args.m.now c.nodes-n.ensures.graph c.as_slice-v-items.ensures.ascending c.requires.nodes)
    (rw (all, c.nodes-n.ensures.nodes) at c.in-Err.ensures.fault))

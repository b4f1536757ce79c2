use Rattle.std.proofs.Common.{◌≡◌, length, true, sym, subst, ◌∙◌, arith, inr, get_or}
use Rattle.tomo_base.specs.declared.graph.Hop.{Hop}
use Rattle.tomo_base.specs.Network.{linked}
use Rattle.unit_flow.specs.Steps.{entry_of, node_at}
use Rattle.unit_flow.specs.Search.{asked, Looked, IsDone}
use Rattle.unit_flow.proofs.Links.{jb}
use Rattle.unit_flow.proofs.Reaches.{Grows-trans}
use Rattle.unit_flow.proofs.Scans.{Scanned, read_node, scan_step, scan_end, hop_near}
use Rattle.unit_flow.proofs.search.scan.Goals as goal

pub look-requires-in-loop-hop-clause-inside : goal.look-requires-in-loop-hop-clause-inside
look-requires-in-loop-hop-clause-inside c =
    let t = asked c.args.g.now c.args.ask.now in
    let near = hop_near t c.index.result.now.node c.hops-hop-items.result.now c.loop-hop.hop-index (record { node = 0; link = 0 }) c.hops-hop-items.ensures c.loop-hop-test.true in
    (jb t c.requires.over.asked.task _ _ near).1

pub look-requires-in-loop-hop-clause-near : goal.look-requires-in-loop-hop-clause-near
look-requires-in-loop-hop-clause-near c =
    let t = asked c.args.g.now c.args.ask.now in
    let u = c.index.result.now.node in
    let e : Hop = record { node = 0; link = 0 } in
    let h : Hop = get_or c.hops-hop-items.result.now c.loop-hop.hop-index e in
    let here : u ≡ node_at c.args.queue.now.items c.args.head = read_node c.args.queue.now.items c.args.head c.index.result.now c.requires.head c.index.ensures in
    inr (subst (λ z. linked t.graph z h.node ≡ true) (here ∙ sym (c.loop-hop.invariant.grows.nodes c.args.head c.requires.head))
    (hop_near t u c.hops-hop-items.result.now c.loop-hop.hop-index e c.hops-hop-items.ensures c.loop-hop-test.true))

pub returns-then-branch-2-clause-grows : goal.returns-then-branch-2-clause-grows
returns-then-branch-2-clause-grows c = Grows-trans c.args.seen.now.items c.loop-hop.seen.items c.look-in-loop-hop.new.seen.items c.args.queue.now.items c.loop-hop.queue.items c.look-in-loop-hop.new.queue.items c.loop-hop.invariant.grows c.in_ok-look-2.ensures.grows

pub returns-then-branch-2-clause-near : goal.returns-then-branch-2-clause-near
returns-then-branch-2-clause-near c =
    let t = asked c.args.g.now c.args.ask.now in
    let u = c.index.result.now.node in
    let e : Hop = record { node = 0; link = 0 } in
    let h : Hop = get_or c.hops-hop-items.result.now c.loop-hop.hop-index e in
    let here : u ≡ node_at c.args.queue.now.items c.args.head = read_node c.args.queue.now.items c.args.head c.index.result.now c.requires.head c.index.ensures in
    let grows = Grows-trans c.args.seen.now.items c.loop-hop.seen.items c.look-in-loop-hop.new.seen.items c.args.queue.now.items c.loop-hop.queue.items c.look-in-loop-hop.new.queue.items c.loop-hop.invariant.grows c.in_ok-look-2.ensures.grows in
    inr (subst (λ z. linked t.graph z h.node ≡ true) (here ∙ sym (grows.nodes c.args.head c.requires.head))
    (hop_near t u c.hops-hop-items.result.now c.loop-hop.hop-index e c.hops-hop-items.ensures c.loop-hop-test.true))

pub loop-hop-preserved : goal.loop-hop-preserved
loop-hop-preserved c =
    let t = asked c.args.g.now c.args.ask.now in
    let f = entry_of c.args.before.now in
    let e : Hop = record { node = 0; link = 0 } in
    let h : Hop = get_or c.hops-hop-items.result.now c.loop-hop.hop-index e in
    scan_step t f c.args.seen.now.items c.loop-hop.seen.items c.look-in-loop-hop.new.seen.items c.args.queue.now.items c.loop-hop.queue.items c.look-in-loop-hop.new.queue.items c.index.result.now.node
    c.hops-hop-items.result.now c.loop-hop.hop-index e c.loop-hop-test.true c.loop-hop.invariant
    (subst (λ z. Looked t f h.node z c.loop-hop.seen.items c.look-in-loop-hop.new.seen.items c.loop-hop.queue.items c.look-in-loop-hop.new.queue.items) c.if-branch-2.false c.in_ok-look-2.ensures)

pub returns-clause-none : goal.returns-clause-none
returns-clause-none c =
    let t = asked c.args.g.now c.args.ask.now in
    let f = entry_of c.args.before.now in
    let u = c.index.result.now.node in
    let hops = c.hops-hop-items.result.now in
    let whole : c.loop-hop.hop-index ≡ length hops = omega (arith, c.loop-hop-test.false, c.loop-hop.auto.hop-index-end) in
    let here : u ≡ node_at c.args.queue.now.items c.args.head = read_node c.args.queue.now.items c.args.head c.index.result.now c.requires.head c.index.ensures in
    subst (IsDone t f c.loop-hop.seen.items) (here ∙ sym (c.loop-hop.invariant.grows.nodes c.args.head c.requires.head))
    (scan_end t f c.args.seen.now.items c.loop-hop.seen.items c.args.queue.now.items c.loop-hop.queue.items u hops c.hops-hop-items.ensures
    (subst (λ i. Scanned t f c.args.seen.now.items c.loop-hop.seen.items c.args.queue.now.items c.loop-hop.queue.items u hops i) whole c.loop-hop.invariant))

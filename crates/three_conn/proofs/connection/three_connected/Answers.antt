use Rattle.std.proofs.Common.{◌≤◌, arith}
use Rattle.tomo_base.specs.Sets.{has, size}
use Rattle.tomo_base.specs.Search.{mark_of}
use Rattle.three_conn.proofs.Whole.{all_marked, all_marked_size, whole_graph, separated}
use Rattle.three_conn.proofs.connection.three_connected.Goals as goal

pub other-second-requires-clause-two : goal.other-second-requires-clause-two
other-second-requires-clause-two c =
    let all = all_marked c.args.g.now.nodes c.nodes-n.result c.deref.result.now c.in_ok-nodes.nodes.items c.deref.ensures.value (c.in_ok-nodes.ensures.items_if_clones_equal (λ y h. h)) c.nodes-n.ensures.nodes in
    let four : 4 ≤ size c.args.g.now (mark_of c.deref.result.now) = all_marked_size c.args.g.now.nodes (mark_of c.deref.result.now) all (omega (arith, c.if-n-lt-FEWEST.false, c.nodes-n.ensures.nodes)) in
    omega (arith, four)

pub seek-requires-clause-first : goal.seek-requires-clause-first
seek-requires-clause-first c =
    all_marked c.args.g.now.nodes c.nodes-n.result c.deref-2.result.now c.in_ok-nodes.nodes.items c.deref-2.ensures.value (c.in_ok-nodes.ensures.items_if_clones_equal (λ y h. h)) c.nodes-n.ensures.nodes c.busiest-first.result c.busiest-first.ensures

pub seek-requires-clause-second : goal.seek-requires-clause-second
seek-requires-clause-second c = rw (c.deref-2.ensures.value, ← c.deref.ensures.value) c.other-second.ensures.node

pub seek-requires-clause-four : goal.seek-requires-clause-four
seek-requires-clause-four c =
    all_marked_size c.args.g.now.nodes (mark_of c.deref-2.result.now)
    (all_marked c.args.g.now.nodes c.nodes-n.result c.deref-2.result.now c.in_ok-nodes.nodes.items c.deref-2.ensures.value (c.in_ok-nodes.ensures.items_if_clones_equal (λ y h. h)) c.nodes-n.ensures.nodes)
    (omega (arith, c.if-n-lt-FEWEST.false, c.nodes-n.ensures.nodes))

pub returns-in-None : goal.returns-in-None
returns-in-None c =
    whole_graph c.args.g.now (mark_of c.deref-2.result.now) c.nodes-n.ensures.graph (omega (arith, c.if-n-lt-FEWEST.false, c.nodes-n.ensures.nodes))
    (all_marked c.args.g.now.nodes c.nodes-n.result c.deref-2.result.now c.in_ok-nodes.nodes.items c.deref-2.ensures.value (c.in_ok-nodes.ensures.items_if_clones_equal (λ y h. h)) c.nodes-n.ensures.nodes)
    (rw c.in-None.is at c.in_ok-seek.ensures.whole)

pub returns : goal.returns
returns c =
    let found = rw c.in-Some.is at c.in_ok-seek.ensures.parting in
    separated c.args.g.now (mark_of c.deref-2.result.now) (has c.in-Some.parting.side.items) c.in-Some.parting.first c.in-Some.parting.second c.in_ok-pair-in-Some.field-0 c.nodes-n.ensures.graph (omega (arith, c.if-n-lt-FEWEST.false, c.nodes-n.ensures.nodes))
    (all_marked c.args.g.now.nodes c.nodes-n.result c.deref-2.result.now c.in_ok-nodes.nodes.items c.deref-2.ensures.value (c.in_ok-nodes.ensures.items_if_clones_equal (λ y h. h)) c.nodes-n.ensures.nodes)
    found.parted c.in_ok-pair-in-Some.ensures.size (rw c.nodes-n.ensures.nodes at c.in_ok-pair-in-Some.ensures.below) c.in_ok-pair-in-Some.ensures.ascending (rw c.nodes-n.ensures.nodes at c.in_ok-pair-in-Some.ensures.nodes)

use Rattle.std.proofs.Common.{arith}
use Rattle.ear_order.proofs.Remaining.{near_last, over_last, is_last, not_u}
use Rattle.ear_order.proofs.candidates.last_ear.Goals as goal

pub unreachable-requires : goal.unreachable-requires
unreachable-requires c =
    let w = near_last c.args.g.now c.nodes-none.ensures.graph c.args.old.now c.args.u c.requires.left c.requires.alone c.nodes-none.result (λ e. omega (arith, e, c.requires.left.node, c.nodes-none.ensures.nodes)) in
    w.3 (c.in_default.ensures.none w.0 w.1 w.2)

pub unreachable-requires-in_default-near : goal.unreachable-requires-in_default-near
unreachable-requires-in_default-near c =
    let w = near_last c.args.g.now c.nodes-none.ensures.graph c.args.old.now c.args.u c.requires.left c.requires.alone c.in-Some.first
    (not_u c.args.g.now c.nodes-none.ensures.graph c.args.old.now c.args.u c.requires.left c.in-Some.first c.in-Some.ensures.marked) in
    w.3 (c.in_default-near.ensures.none w.0 w.1 w.2)

pub returns-clause-ear : goal.returns-clause-ear
returns-clause-ear c = rw (c.in_ok-ear.ensures.items_if_clones_equal (λ x y h. h))
    (over_last c.args.g.now c.nodes-none.ensures.graph c.args.old.now c.args.u c.requires.left c.in-Some.first c.in-Some-near.second c.in-Some.ensures.link c.in-Some.ensures.marked
    c.in-Some-near.ensures.link c.in-Some-near.ensures.marked c.in-Some-near.ensures.differs)

pub returns-clause-last : goal.returns-clause-last
returns-clause-last c = rw (c.in_ok-ear.ensures.items_if_clones_equal (λ x y h. h))
    (is_last c.args.g.now c.nodes-none.ensures.graph c.args.old.now c.args.u c.requires.left c.requires.alone c.in-Some.first c.in-Some-near.second)

use Rattle.std.proofs.Common.{◌<◌, ◌≡◌, true, false, length, arith, length-set, ap, ◌∙◌}
use Rattle.tomo_base.specs.Search.{mark_of}
use Rattle.tomo_base.specs.Parting.{with_one}
use Rattle.gate_search.proofs.Marks.{mark_below, mark_more, still_gone, fewer_marks}
use Rattle.three_conn.proofs.Marking.{held_same, rest_less}
use Rattle.three_conn.proofs.Holding.{held_more, held_other, shut_parting}
use Rattle.three_conn.proofs.growing.grow.Goals as goal

pub loop-x-smaller-in-More : goal.loop-x-smaller-in-More
loop-x-smaller-in-More c =
    let step = rw (c.deref-then-index-2.ensures.value, c.in-More.is) at c.in_ok-u.ensures.growth in
    let fewer = fewer_marks c.args.g.now.nodes c.loop-x.free.items c.in-More.u step.0 (omega (arith, step.0, c.loop-x.invariant.size)) step.1 in
    omega (arith, fewer)

pub loop-x-preserved-in-More : goal.loop-x-preserved-in-More
loop-x-preserved-in-More c =
    let step = rw (c.deref-then-index-2.ensures.value, c.in-More.is) at c.in_ok-u.ensures.growth in
    let u = c.in-More.u in
    let known = c.loop-x.invariant.known in
    let held = c.loop-x.known.held.items in
    let free = c.loop-x.free.items in
    let in_held : u < length held = omega (arith, step.0, known.marks) in
    let in_free : u < length free = omega (arith, step.0, c.loop-x.invariant.size) in
    let lent : length c.deref-in-More.result.now ≡ length free = ap length c.deref-in-More.ensures.value in
    record {
      known = record {
        marks = length-set held u true ∙ known.marks;
        held = held_same c.args.g.now (mark_of c.args.nodes.now) (with_one (mark_of held) u) _ c.loop-x.known.root (λ v. mark_more held u v in_held) (held_more c.args.g.now (mark_of c.args.nodes.now) (mark_of held) (mark_of free) c.loop-x.known.root u known.held c.loop-x.invariant.rest step.2);
      };
      root = c.loop-x.invariant.root;
      size = length-set free u false ∙ c.loop-x.invariant.size;
      rest = rest_less (mark_of c.args.nodes.now) held free u in_held in_free c.loop-x.invariant.rest;
      starts = λ k d l. omega (arith, c.in_ok-add_free-in-More.ensures.starts k d l, length-set free u false, lent);
      room = c.in_ok-u.ensures.room;
      passed = λ v l. still_gone free u v in_free (c.loop-x.invariant.passed v l);
    }

pub returns-in-Parted-clause-parting : goal.returns-in-Parted-clause-parting
returns-in-Parted-clause-parting c =
    let step = rw (c.deref-then-index-2.ensures.value, c.in-Parted.is) at c.in_ok-u.ensures.growth in
    shut_parting c.args.g.now (mark_of c.args.nodes.now) (mark_of c.loop-x.known.held.items) (mark_of c.loop-x.free.items) c.loop-x.known.root c.step.new.search.found c.in-Parted.first c.in-Parted.second
    c.nodes-in-loop-x.ensures.graph (λ v t. omega (arith, mark_below c.args.nodes.now v t, c.requires.marks)) c.loop-x.invariant.known.held c.loop-x.invariant.rest step

pub returns-clause-whole : goal.returns-clause-whole
returns-clause-whole c = λ v t.
    held_other (mark_of c.args.nodes.now) (mark_of c.loop-x.known.held.items) (mark_of c.loop-x.free.items) v c.loop-x.invariant.rest t
    (c.loop-x.invariant.passed v (omega (arith, mark_below c.args.nodes.now v t, c.requires.marks, c.loop-x-test.false, c.nodes-in-loop-x.ensures.nodes)))

use Rattle.std.proofs.Common.{◌≡◌, [], ◌∷◌, true, length, ap, subst, ◌∙◌, arith}
use Rattle.tomo_base.specs.Search.{mark_of}
use Rattle.tomo_base.proofs.Reaching.{connected-joined}
use Rattle.gate_search.specs.Advancing.{HasTwoGates, HasOneGate}
use Rattle.gate_search.proofs.Marks.{mark_below}
use Rattle.gate_search.proofs.Stopping.{searched_room}
use Rattle.gate_search.proofs.Cutting.{cut_off}
use Rattle.three_conn.proofs.Together.{cut_parts, grown_whole}
use Rattle.three_conn.proofs.single.part_at_one.Goals as goal

pub loop-x-init : goal.loop-x-init
loop-x-init c = record {
  grown = c.in_ok-free.ensures.grown (mark_of c.args.nodes.now) (λ v t. t);
  size = c.in_ok-free.ensures.size;
  starts = λ k d l. absurd (omega (arith, l, ap length c.new-starts.ensures.items));
  room = rw c.nodes.ensures.nodes at c.in_ok-search.ensures;
  passed = λ v l. absurd (omega (arith, l));
}

pub advance_from-requires-clause-joined : goal.advance_from-requires-clause-joined
advance_from-requires-clause-joined c =
    let g = c.args.g.now in
    let nodes = c.args.nodes.now in
    let grown = c.loop-x.invariant.grown in
    let root = c.args.root in
    let start = c.take_free-start.result in
    let is_free : mark_of c.loop-x.free.items start ≡ true = subst (λ xs. mark_of xs start ≡ true) c.deref.ensures.value c.take_free-start.ensures.node.1 in
    let joined = connected-joined g (mark_of nodes) (λ v t. omega (arith, mark_below nodes v t, c.requires.marks)) c.requires.connected start root (grown.free_in start is_free) grown.root_in in
    (root, ap (λ xs. mark_of xs root) c.deref-then-index.ensures.value ∙ grown.root_held, joined)

pub loop-x-preserved-in-Continue-branch-5 : goal.loop-x-preserved-in-Continue-branch-5
loop-x-preserved-in-Continue-branch-5 c =
    let g = c.args.g.now in
    let inv = c.loop-x.invariant in
    let s = c.advance_from.new.search in
    let way : HasTwoGates g (mark_of c.args.nodes.now) c.loop-x.free.items s c.in-Way.y = rw (c.deref-then-index.ensures.value, c.in-Way.is) at c.in_ok-y.ensures in
    record {
      grown = c.in_ok-hold_way-in-Way.ensures.grown (mark_of c.args.nodes.now) c.args.root (mark_of c.args.nodes.now) way inv.grown;
      size = c.in_ok-hold_way-in-Way.ensures.size;
      starts = c.in_ok-hold_way-in-Way.ensures.starts;
      room = searched_room g c.loop-x.free.items (s.start ∷ []) s.head s.found way.search.search;
      passed = λ v l. c.in_ok-hold_way-in-Way.ensures.passed v (inv.passed v l);
    }

pub returns-in-Cut-clause-parting : goal.returns-in-Cut-clause-parting
returns-in-Cut-clause-parting c =
    let g = c.args.g.now in
    let nodes = c.args.nodes.now in
    let s = c.advance_from.new.search in
    let off : HasOneGate g (mark_of nodes) c.loop-x.free.items s c.in-Cut.d = rw (c.deref-then-index.ensures.value, c.in-Cut.is) at c.in_ok-y.ensures in
    cut_parts g (mark_of nodes) s.found.order c.in-Cut.d (λ v t. omega (arith, mark_below nodes v t, c.requires.marks))
    (cut_off g (mark_of nodes) c.args.root (mark_of nodes) c.loop-x.free.items s c.in-Cut.d c.nodes.ensures.graph off c.loop-x.invariant.grown)

pub returns-clause-whole : goal.returns-clause-whole
returns-clause-whole c =
    let nodes = c.args.nodes.now in
    grown_whole c.args.g.now (mark_of nodes) (mark_of c.loop-x.free.items) c.args.root c.nodes.ensures.graph c.loop-x.invariant.grown
    (λ v t. c.loop-x.invariant.passed v (omega (arith, mark_below nodes v t, c.requires.marks, c.loop-x-test.false, c.nodes-in-loop-x.ensures.nodes)))

use Rattle.std.proofs.lemmas.Bool.{both_ways}
use Rattle.tomo_base.specs.Search.{mark_of}
use Rattle.gate_search.specs.Gates.{IsGateOf}
use Rattle.gate_search.specs.Stops.{IsAtGate, IsGateless}
use Rattle.gate_search.proofs.Trees.{ranked_in}
use Rattle.gate_search.proofs.Cutting.{gateless_reaches}
use Rattle.gate_search.proofs.advancing.advance_from.Goals as goal

pub unreachable-requires : goal.unreachable-requires
unreachable-requires c =
    let g = c.args.g.now in
    let free = c.args.free.now in
    let end : IsGateless g (mark_of c.args.nodes.now) (mark_of free) c.start_at_gate.new.self c.args.x = rw c.in_default.is at c.in_ok-first.ensures.none in
    both_ways (mark_of free c.requires.joined.0) c.requires.joined.1
    (gateless_reaches g (mark_of c.args.nodes.now) free c.start_at_gate.new.self c.args.x c.requires.joined.0 c.nodes-count.ensures.graph c.in_ok-first.ensures.search end c.requires.joined.2)

pub returns-in-Some-2 : goal.returns-in-Some-2
returns-in-Some-2 c =
    let g = c.args.g.now in
    let free = c.args.free.now in
    let w = mark_of c.args.nodes.now in
    let s = c.next_gate.new.self in
    let at : IsAtGate g w (mark_of free) c.start_at_gate.new.self c.in-Some.first = rw c.in-Some.is at c.in_ok-first.ensures.found in
    let second : IsGateOf g w (mark_of free) s.found.order.items c.in-Some.first.outer c.in-Some.first.outer c.in-Some-2.second = rw c.in-Some-2.is at c.in_ok-second.ensures.found in
    record {
      search = c.in_ok-second.ensures.search;
      ranked = ranked_in g free s.start s.head s.found c.nodes-count.ensures.graph c.in_ok-second.ensures.search.search c.in-Some-2.second.inner second.0;
      first = c.in-Some.first.outer;
      second = c.in-Some-2.second.outer;
      start_gate = rw (c.in_ok-second.ensures.start, at.start) at.gate;
      other_gate = second.1;
    }

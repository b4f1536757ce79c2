use Rattle.std.proofs.Common.{◌≤◌, length, inl, [], ◌∷◌}
use Rattle.tomo_base.specs.Search.{mark_of}
use Rattle.gate_search.specs.Gates.{IsGateOf, IsGate}
use Rattle.gate_search.specs.Stops.{IsAtGate, IsGateless}
use Rattle.gate_search.proofs.Trees.{ranked_in, first_in, is_tree, ranked_free}
use Rattle.gate_search.proofs.Stopping.{searched_room}
use Rattle.three_conn.proofs.Steps.{few_gates, gate_end, meeting_leads}
use Rattle.three_conn.proofs.growing.step.Goals as goal
use Rattle.three_conn.proofs.growing.step.Goals.{In_ok-third}

pub returns-in_default-clause-growth : goal.returns-in_default-clause-growth
returns-in_default-clause-growth c =
    let g = c.args.g.now in
    let w = mark_of c.args.nodes.now in
    let s = c.start_at_gate.new.self in
    let end : IsGateless g w (mark_of c.args.free.now) s c.args.x = rw c.in_default.is at c.in_ok-first.ensures.none in
    few_gates g c.args.free.now s.start s.head s.found c.nodes-n.ensures.graph c.in_ok-first.ensures.search.search w c.nodes-n.result c.nodes-n.result end.all (rw (← c.nodes-n.ensures.nodes) at end.passed) (inl c.nodes-n.ensures.nodes) (inl c.nodes-n.ensures.nodes)

pub returns-in_default-clause-room : goal.returns-in_default-clause-room
returns-in_default-clause-room c = let s = c.start_at_gate.new.self in searched_room c.args.g.now c.args.free.now (s.start ∷ []) s.head s.found c.in_ok-first.ensures.search.search

pub returns-in_default-2-clause-growth : goal.returns-in_default-2-clause-growth
returns-in_default-2-clause-growth c =
    let g = c.args.g.now in
    let free = c.args.free.now in
    let s = c.next_gate.new.self in
    let search = c.in_ok-second.ensures.search.search in
    let all : length s.found.order.items ≤ s.head = rw c.in_default-2.is at c.in_ok-second.ensures.none in
    let at : IsAtGate g (mark_of c.args.nodes.now) (mark_of free) c.start_at_gate.new.self c.in-Some.first = rw c.in-Some.is at c.in_ok-first.ensures.found in
    let gate : IsGate g (mark_of c.args.nodes.now) (mark_of free) s.start g.nodes g.nodes c.in-Some.first.outer = rw (c.in_ok-second.ensures.start, at.start) at.gate in
    let end = gate_end g free s.start s.head s.found c.nodes-n.ensures.graph search (mark_of c.args.nodes.now) s.start g.nodes g.nodes c.in-Some.first.outer (first_in g free s.start s.head s.found c.nodes-n.ensures.graph search) gate in
    few_gates g free s.start s.head s.found c.nodes-n.ensures.graph search (mark_of c.args.nodes.now) c.in-Some.first.outer c.in-Some.first.outer all c.in_ok-second.ensures.passed end end

pub returns-in_default-2-clause-room : goal.returns-in_default-2-clause-room
returns-in_default-2-clause-room c = let s = c.next_gate.new.self in searched_room c.args.g.now c.args.free.now (s.start ∷ []) s.head s.found c.in_ok-second.ensures.search.search

-- the first gate is one of the last search too
first_gate : (c : In_ok-third) → IsGate c.args.g.now (mark_of c.args.nodes.now) (mark_of c.args.free.now) c.next_gate-2.new.self.start c.args.g.now.nodes c.args.g.now.nodes c.in-Some.first.outer
first_gate c =
    let at : IsAtGate c.args.g.now (mark_of c.args.nodes.now) (mark_of c.args.free.now) c.start_at_gate.new.self c.in-Some.first = rw c.in-Some.is at c.in_ok-first.ensures.found in
    rw (c.in_ok-third.ensures.start, c.in_ok-second.ensures.start, at.start) at.gate

-- the second gate leads to another node than the first
second_gate : (c : In_ok-third) → IsGateOf c.args.g.now (mark_of c.args.nodes.now) (mark_of c.args.free.now) c.next_gate.new.self.found.order.items c.in-Some.first.outer c.in-Some.first.outer c.in-Some-2.second
second_gate c = rw c.in-Some-2.is at c.in_ok-second.ensures.found

pub returns-in_default-3-clause-growth : goal.returns-in_default-3-clause-growth
returns-in_default-3-clause-growth c =
    let g = c.args.g.now in
    let free = c.args.free.now in
    let w = mark_of c.args.nodes.now in
    let a = c.in-Some.first.outer in
    let b = c.in-Some-2.second.outer in
    let s = c.next_gate-2.new.self in
    let graph = c.nodes-n.ensures.graph in
    let search = c.in_ok-third.ensures.search.search in
    let here = (goal.at.returns-in_default-3-clause-growth c).In_ok-third in
    let all : length s.found.order.items ≤ s.head = rw c.in_default-3.is at c.in_ok-third.ensures.none in
    let second = second_gate here in
    let end_a = gate_end g free s.start s.head s.found graph search w s.start g.nodes g.nodes a (first_in g free s.start s.head s.found graph search) (first_gate here) in
    let end_b = gate_end g free s.start s.head s.found graph search w c.in-Some-2.second.inner a a b (c.in_ok-third.ensures.kept c.in-Some-2.second.inner second.0) second.1 in
    few_gates g free s.start s.head s.found graph search w a b all c.in_ok-third.ensures.passed end_a end_b

pub returns-in_default-3-clause-room : goal.returns-in_default-3-clause-room
returns-in_default-3-clause-room c = let s = c.next_gate-2.new.self in searched_room c.args.g.now c.args.free.now (s.start ∷ []) s.head s.found c.in_ok-third.ensures.search.search

pub meet-requires-clause-tree : goal.meet-requires-clause-tree
meet-requires-clause-tree c = let s = c.next_gate-2.new.self in is_tree c.args.g.now c.args.free.now s.start s.head s.found c.nodes-n.ensures.graph c.in_ok-third.ensures.search.search

pub meet-requires-clause-first : goal.meet-requires-clause-first
meet-requires-clause-first c =
    let s = c.next_gate-2.new.self in
    let second = second_gate (goal.at.meet-requires-clause-first c).In_ok-third in
    ranked_in c.args.g.now c.args.free.now s.start s.head s.found c.nodes-n.ensures.graph c.in_ok-third.ensures.search.search c.in-Some-2.second.inner (c.in_ok-third.ensures.kept c.in-Some-2.second.inner second.0)

pub meet-requires-clause-second : goal.meet-requires-clause-second
meet-requires-clause-second c =
    let s = c.next_gate-2.new.self in
    let third : IsGateOf c.args.g.now (mark_of c.args.nodes.now) (mark_of c.args.free.now) s.found.order.items c.in-Some.first.outer c.in-Some-2.second.outer c.in-Some-3.third = rw c.in-Some-3.is at c.in_ok-third.ensures.found in
    ranked_in c.args.g.now c.args.free.now s.start s.head s.found c.nodes-n.ensures.graph c.in_ok-third.ensures.search.search c.in-Some-3.third.inner third.0

pub returns-clause-growth : goal.returns-clause-growth
returns-clause-growth c =
    let here = (goal.at.returns-clause-growth c).In_ok-third in
    let s = c.next_gate-2.new.self in
    let third : IsGateOf c.args.g.now (mark_of c.args.nodes.now) (mark_of c.args.free.now) s.found.order.items c.in-Some.first.outer c.in-Some-2.second.outer c.in-Some-3.third = rw c.in-Some-3.is at c.in_ok-third.ensures.found in
    let u = ranked_free c.args.g.now c.args.free.now s.start s.head s.found c.nodes-n.ensures.graph c.in_ok-third.ensures.search.search c.meet.result c.meet.ensures.ranked in (
      u.0,
      u.1,
      meeting_leads c.args.g.now c.args.free.now s.start s.head s.found c.nodes-n.ensures.graph c.in_ok-third.ensures.search.search (mark_of c.args.nodes.now) c.in-Some-2.second.inner c.in-Some-3.third.inner
          c.meet.result c.in-Some.first.outer c.in-Some-2.second.outer c.in-Some-3.third.outer c.args.g.now.nodes c.args.g.now.nodes c.meet.ensures.ways c.meet.ensures.ranked (first_gate here) (second_gate here).1 third.1 c.requires.inside,
    )

pub returns-clause-room : goal.returns-clause-room
returns-clause-room c = let s = c.next_gate-2.new.self in searched_room c.args.g.now c.args.free.now (s.start ∷ []) s.head s.found c.in_ok-third.ensures.search.search

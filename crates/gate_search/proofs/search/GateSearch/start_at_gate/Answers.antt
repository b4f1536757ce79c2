use Rattle.std.proofs.Common.{arith}
use Rattle.tomo_base.specs.Search.{mark_of}
use Rattle.gate_search.specs.Gates.{IsGateOf}
use Rattle.gate_search.proofs.Trees.{free_in, ranked_in}
use Rattle.gate_search.proofs.search.GateSearch.start_at_gate.Goals as goal

pub start-requires-2-clause-node : goal.start-requires-2-clause-node
start-requires-2-clause-node c =
    let s = c.next_gate.new.self in
    let g = c.args.g.now in
    let found : IsGateOf g (mark_of c.args.nodes.now) (mark_of c.args.free.now) s.found.order.items c.nodes-n.result c.nodes-n.result c.in-Some.gate = rw c.in-Some.is at c.in_ok-gate.ensures.found in
    let ranked = ranked_in g c.args.free.now s.start s.head s.found c.nodes-n.ensures.graph c.in_ok-gate.ensures.search.search c.in-Some.gate.inner found.0 in
    omega (arith, ranked.0, c.in_ok-gate.ensures.search.search.parents)

pub returns-clause-search : goal.returns-clause-search
returns-clause-search c =
    let s = c.next_gate.new.self in
    let g = c.args.g.now in
    let found : IsGateOf g (mark_of c.args.nodes.now) (mark_of c.args.free.now) s.found.order.items c.nodes-n.result c.nodes-n.result c.in-Some.gate = rw c.in-Some.is at c.in_ok-gate.ensures.found in
    c.in_ok-start-2.ensures.search c.args.free.now (free_in g c.args.free.now s.start s.head s.found c.nodes-n.ensures.graph c.in_ok-gate.ensures.search.search c.in-Some.gate.inner found.0)

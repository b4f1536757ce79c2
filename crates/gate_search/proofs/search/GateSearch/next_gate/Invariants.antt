use Rattle.std.proofs.Common.{◌≡◌, ◌-◌}
use Rattle.tomo_base.specs.Sets.{has, Within}
use Rattle.tomo_base.specs.Search.{mark_of}
use Rattle.gate_search.specs.Stops.{IsGateSearch, ArePassed}
use Rattle.gate_search.proofs.search.GateSearch.next_gate.Given as goal

abbrev pub invariant-loop-self : goal.invariant-loop-self
invariant-loop-self l = record {
  search : IsGateSearch l.g l.free l.self;
  start : l.self.start ≡ l.fn.self.start;
  kept : Within (has l.fn.self.found.order.items) (has l.self.found.order.items);
  passed : ArePassed l.g (mark_of l.nodes) (mark_of l.free) l.self l.c l.d;
}

abbrev pub decreases-loop-self : goal.decreases-loop-self
decreases-loop-self l = l.g.nodes - l.self.head

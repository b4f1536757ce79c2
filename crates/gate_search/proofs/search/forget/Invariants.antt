use Rattle.std.proofs.Common.{◌≡◌, length}
use Rattle.gate_search.proofs.Stopping.{IsForgotten}
use Rattle.gate_search.proofs.search.forget.Given as goal

-- the nodes of the order so far have lost their ranks
abbrev pub invariant-loop-k : goal.invariant-loop-k
invariant-loop-k l = record {
  order : l.found.order.items ≡ l.fn.found.order.items;
  parents : length l.found.parent.items ≡ l.n;
  ranks : IsForgotten l.n l.fn.found.order.items l.k l.found.rank.items;
}

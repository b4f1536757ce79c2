use Rattle.std.proofs.Common.{◌≡◌, ◌<◌, ◌+◌, ◌-◌, ℕ, false, length, All}
use Rattle.tomo_base.specs.Sets.{count}
use Rattle.tomo_base.specs.Search.{mark_of}
use Rattle.gate_search.specs.Stops.{IsRoom}
use Rattle.three_conn.specs.Held.{IsKnown, IsRest}
use Rattle.three_conn.proofs.growing.grow.Given as goal

abbrev pub invariant-loop-x : goal.invariant-loop-x
invariant-loop-x l = record {
  known : IsKnown l.g (mark_of l.nodes) l.known;
  root : l.known.root ≡ l.fn.known.root;
  size : length l.free.items ≡ l.g.nodes;
  rest : IsRest (mark_of l.nodes) (mark_of l.known.held.items) (mark_of l.free.items);
  starts : All (λ v. v < length l.free.items) l.starts.items;
  room : IsRoom l.g.nodes l.search.found;
  passed : (v : ℕ) → v < l.x → mark_of l.free.items v ≡ false;
}

abbrev pub decreases-loop-x : goal.decreases-loop-x
decreases-loop-x l = (l.g.nodes - l.x) + count l.g.nodes (mark_of l.free.items)

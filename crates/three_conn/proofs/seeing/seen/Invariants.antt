use Rattle.std.proofs.Common.{◌≡◌, ◌<◌, ◌+◌, ◌-◌, ℕ, false, length, All}
use Rattle.tomo_base.specs.Sets.{count, has}
use Rattle.tomo_base.specs.Search.{mark_of}
use Rattle.gate_search.specs.Stops.{IsRoom}
use Rattle.three_conn.proofs.Sight.{IsSeeing}
use Rattle.three_conn.proofs.seeing.seen.Given as goal

abbrev pub invariant-loop-x : goal.invariant-loop-x
invariant-loop-x l = record {
  nodes : length l.nodes.items ≡ l.g.nodes;
  size : length l.free.items ≡ l.g.nodes;
  seeing : IsSeeing l.g (has l.m) (mark_of l.nodes.items) (mark_of l.free.items);
  starts : All (λ v. v < length l.free.items) l.starts.items;
  room : IsRoom l.g.nodes l.search.found;
  passed : (v : ℕ) → v < l.x → mark_of l.free.items v ≡ false;
}

abbrev pub decreases-loop-x : goal.decreases-loop-x
decreases-loop-x l = (l.g.nodes - l.x) + count l.g.nodes (mark_of l.free.items)

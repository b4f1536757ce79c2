use Rattle.std.proofs.Common.{◌≡◌, ◌<◌, ◌+◌, ◌-◌, ℕ, false, length, All}
use Rattle.tomo_base.specs.Sets.{count}
use Rattle.tomo_base.specs.Search.{mark_of}
use Rattle.gate_search.specs.Stops.{IsRoom}
use Rattle.gate_search.specs.Advancing.{IsGrown}
use Rattle.three_conn.proofs.single.part_at_one.Given as goal

abbrev pub invariant-loop-x : goal.invariant-loop-x
invariant-loop-x l = record {
  grown : IsGrown l.g (mark_of l.nodes) l.root (mark_of l.nodes) (mark_of l.free.items);
  size : length l.free.items ≡ l.g.nodes;
  starts : All (λ v. v < l.g.nodes) l.starts.items;
  room : IsRoom l.g.nodes l.search.found;
  passed : (v : ℕ) → v < l.x → mark_of l.free.items v ≡ false;
}

abbrev pub decreases-loop-x : goal.decreases-loop-x
decreases-loop-x l = (l.g.nodes - l.x) + count l.g.nodes (mark_of l.free.items)

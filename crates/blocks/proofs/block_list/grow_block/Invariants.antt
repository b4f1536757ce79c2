use Rattle.std.proofs.Common.{◌≡◌, ◌<◌, ◌≤◌, ◌+◌, ◌-◌, ℕ, false, [], ◌∷◌, length, All}
use Rattle.tomo_base.specs.Sets.{has, count, Within}
use Rattle.tomo_base.specs.Walks.{everything}
use Rattle.tomo_base.specs.Search.{mark_of, entry_at}
use Rattle.gate_search.specs.Stops.{IsRoom}
use Rattle.gate_search.specs.Advancing.{IsGrown}
use Rattle.blocks.specs.Working.{Working, weight_of}
use Rattle.blocks.proofs.block_list.grow_block.Given as goal

abbrev pub invariant-loop-i : goal.invariant-loop-i
invariant-loop-i l = record {
  working : Working l.g (mark_of l.nodes.items ∷ []) l.work;
  lighter : weight_of l.g (mark_of l.nodes.items ∷ []) l.work ≤ weight_of l.g (has l.part ∷ []) l.fn.work;
  inside : Within (mark_of l.nodes.items) (has l.part);
  grown : IsGrown l.g everything l.root (mark_of l.nodes.items) (mark_of l.free.items);
  marks : length l.nodes.items ≡ l.g.nodes;
  size : length l.free.items ≡ l.g.nodes;
  starts : All (λ v. v < l.g.nodes) l.starts.items;
  room : IsRoom l.g.nodes l.search.found;
  passed : (k : ℕ) → k < l.i → mark_of l.free.items (entry_at l.part k) ≡ false;
}

abbrev pub decreases-loop-i : goal.decreases-loop-i
decreases-loop-i l = (length l.part - l.i) + count l.g.nodes (mark_of l.free.items)

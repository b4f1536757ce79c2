use Rattle.std.proofs.Common.{◌≡◌, ℕ, length, take}
use Rattle.tomo_base.specs.Sets.{has, minus}
use Rattle.tomo_base.specs.Search.{mark_of}
use Rattle.three_conn.proofs.seeing.take_out.Given as goal

-- the nodes of the list so far have lost their marks
abbrev pub invariant-loop-v : goal.invariant-loop-v
invariant-loop-v l = record {
  nodes_length : length l.nodes.items ≡ length l.fn.nodes.items;
  free_length : length l.free.items ≡ length l.fn.nodes.items;
  nodes : (w : ℕ) → mark_of l.nodes.items w ≡ minus (mark_of l.fn.nodes.items) (has (take l.v-index l.order)) w;
  free : (w : ℕ) → mark_of l.free.items w ≡ minus (mark_of l.fn.free.items) (has (take l.v-index l.order)) w;
}

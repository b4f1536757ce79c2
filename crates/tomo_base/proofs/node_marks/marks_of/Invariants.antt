use Rattle.std.proofs.Common.{◌≡◌, ℕ, length, take}
use Rattle.tomo_base.specs.Sets.{has}
use Rattle.tomo_base.specs.Search.{mark_of}
use Rattle.tomo_base.proofs.node_marks.marks_of.Given as goal

-- one mark for each node, on the nodes of the list so far
abbrev pub invariant-loop-v : goal.invariant-loop-v
invariant-loop-v l = (length l.marks.items ≡ l.n) × ((w : ℕ) → mark_of l.marks.items w ≡ has (take l.v-index l.nodes) w)

use Rattle.std.proofs.Common.{◌≡◌, ℕ, length, take}
use Rattle.tomo_base.specs.Sets.{has, minus}
use Rattle.tomo_base.specs.Search.{mark_of}
use Rattle.split_tree.proofs.marks.marks_without.Given as goal

-- the marks of the list without the nodes so far
abbrev pub invariant-loop-v : goal.invariant-loop-v
invariant-loop-v l = (length l.marks.items ≡ l.n) × ((w : ℕ) → mark_of l.marks.items w ≡ minus (has l.nodes) (has (take l.v-index l.out)) w)

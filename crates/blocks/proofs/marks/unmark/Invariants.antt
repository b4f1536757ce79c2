use Rattle.std.proofs.Common.{◌≡◌, ℕ, length, take}
use Rattle.tomo_base.specs.Sets.{has, minus}
use Rattle.tomo_base.specs.Search.{mark_of}
use Rattle.blocks.proofs.marks.unmark.Given as goal

-- the nodes of the list so far have lost their marks
abbrev pub invariant-loop-v : goal.invariant-loop-v
invariant-loop-v l = (length l.marks.items ≡ length l.fn.marks.items) × ((w : ℕ) → mark_of l.marks.items w ≡ minus (mark_of l.fn.marks.items) (has (take l.v-index l.nodes)) w)

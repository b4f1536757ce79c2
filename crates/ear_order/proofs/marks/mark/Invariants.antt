use Rattle.std.proofs.Common.{◌≡◌, ℕ, length, cond, take}
use Rattle.tomo_base.specs.Search.{mark_of}
use Rattle.tomo_base.specs.Sets.{has}
use Rattle.ear_order.proofs.marks.mark.Given as goal

-- the nodes so far have the mark
abbrev pub invariant-loop-v : goal.invariant-loop-v
invariant-loop-v l = (length l.marks.items ≡ length l.fn.marks.items) × ((w : ℕ) → mark_of l.marks.items w ≡ cond (has (take l.v-index l.nodes) w) l.value (mark_of l.fn.marks.items w))

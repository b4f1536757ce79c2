use Rattle.std.proofs.Common.{◌≡◌, ◌||◌, ℕ, length, take}
use Rattle.tomo_base.specs.Search.{mark_of}
use Rattle.tomo_base.specs.Sets.{has}
use Rattle.unit_flow.proofs.marks.mark.Given as goal

-- the nodes so far are marked as well
abbrev pub invariant-loop-v : goal.invariant-loop-v
invariant-loop-v l = (length l.marks ≡ length l.initial.marks) × ((w : ℕ) → mark_of l.marks w ≡ (mark_of l.initial.marks w || has (take l.v-index l.fn.nodes) w))

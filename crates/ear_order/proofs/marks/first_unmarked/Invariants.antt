use Rattle.std.proofs.Common.{◌≡◌, ℕ, ◌<◌, true}
use Rattle.tomo_base.specs.Search.{mark_of}
use Rattle.ear_order.proofs.marks.first_unmarked.Given as goal

-- the nodes so far have marks
abbrev pub invariant-loop-v : goal.invariant-loop-v
invariant-loop-v l = (v : ℕ) → v < l.v → mark_of l.marks v ≡ true

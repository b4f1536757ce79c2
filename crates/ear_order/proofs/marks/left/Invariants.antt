use Rattle.std.proofs.Common.{◌≡◌, ◌<◌, ℕ, not, length}
use Rattle.tomo_base.specs.Search.{mark_of}
use Rattle.ear_order.proofs.marks.left.Given as goal

-- the nodes so far that have no mark
abbrev pub invariant-loop-mark : goal.invariant-loop-mark
invariant-loop-mark l = (length l.rest.items ≡ l.mark-index) × ((v : ℕ) → v < l.mark-index → mark_of l.rest.items v ≡ not (mark_of l.old v))

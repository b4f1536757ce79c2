use Rattle.std.proofs.Common.{◌≡◌, ℕ, ◌&&◌, nat_lt}
use Rattle.tomo_base.specs.Search.{mark_of}
use Rattle.tomo_base.specs.Sets.{has}
use Rattle.unit_flow.proofs.marks.marked.Given as goal

-- the set has the nodes so far that are marked
abbrev pub invariant-loop-v : goal.invariant-loop-v
invariant-loop-v l = (w : ℕ) → has l.set w ≡ (nat_lt w l.v && mark_of l.marks w)

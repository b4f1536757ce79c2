use Rattle.std.proofs.Common.{◌≡◌, ◌&&◌, ℕ, nat_lt}
use Rattle.std.specs.List.Sorted.{IsStrictlyIncreasing}
use Rattle.tomo_base.specs.Sets.{has}
use Rattle.tomo_base.specs.Search.{mark_of}
use Rattle.blocks.proofs.block_list.set_marked.Given as goal

-- the set has the marked nodes so far
abbrev pub invariant-loop-v : goal.invariant-loop-v
invariant-loop-v l = IsStrictlyIncreasing l.set × ((w : ℕ) → has l.set w ≡ (nat_lt w l.v && mark_of l.marks w))

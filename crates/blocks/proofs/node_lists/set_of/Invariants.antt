use Rattle.std.proofs.Common.{◌≡◌, ℕ, take}
use Rattle.std.specs.List.Sorted.{IsStrictlyIncreasing}
use Rattle.tomo_base.specs.Sets.{has}
use Rattle.blocks.proofs.node_lists.set_of.Given as goal

-- the set has the nodes so far
abbrev pub invariant-loop-v : goal.invariant-loop-v
invariant-loop-v l = IsStrictlyIncreasing l.set × ((w : ℕ) → has l.set w ≡ has (take l.v-index l.nodes) w)

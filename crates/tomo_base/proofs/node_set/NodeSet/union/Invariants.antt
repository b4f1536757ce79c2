use Rattle.std.proofs.Common.{◌≡◌, ℕ, ◌||◌, take}
use Rattle.tomo_base.specs.Sets.{has}
use Rattle.tomo_base.proofs.node_set.NodeSet.union.Given as goal

-- all has what stands in the set, and the nodes of the other so far
abbrev pub invariant-loop-v : goal.invariant-loop-v
invariant-loop-v l = (w : ℕ) → has l.all w ≡ (has l.self w || has (take l.v-index l.v-items) w)

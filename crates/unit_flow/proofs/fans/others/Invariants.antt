use Rattle.std.proofs.Common.{◌≡◌, ℕ, take}
use Rattle.tomo_base.specs.Sets.{has, without}
use Rattle.unit_flow.proofs.fans.others.Given as goal

-- rest has the nodes so far, but not x
abbrev pub invariant-loop-v : goal.invariant-loop-v
invariant-loop-v l = (w : ℕ) → has l.rest w ≡ without (has (take l.v-index l.v-items)) l.x w

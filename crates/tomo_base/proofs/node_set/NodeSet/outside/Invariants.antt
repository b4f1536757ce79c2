use Rattle.std.proofs.Common.{◌≡◌, ℕ, ◌&&◌, nat_lt}
use Rattle.tomo_base.specs.Sets.{has, outside}
use Rattle.tomo_base.proofs.node_set.NodeSet.outside.Given as goal

-- found has the outside neighbours below v
abbrev pub invariant-loop-v : goal.invariant-loop-v
invariant-loop-v l = (w : ℕ) → has l.found w ≡ (nat_lt w l.v && outside l.g (has l.self) w)

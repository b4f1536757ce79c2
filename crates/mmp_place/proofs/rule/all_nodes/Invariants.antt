use Rattle.std.proofs.Common.{◌≡◌, ℕ, nat_lt}
use Rattle.tomo_base.specs.Sets.{has}
use Rattle.mmp_place.proofs.rule.all_nodes.Given as goal

-- the nodes before v
abbrev pub invariant-loop-v : goal.invariant-loop-v
invariant-loop-v l = (w : ℕ) → has l.all w ≡ nat_lt w l.v

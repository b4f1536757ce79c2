use Rattle.std.proofs.Common.{◌≡◌, ℕ, nat_lt, ◌&&◌}
use Rattle.tomo_base.specs.Sets.{has, degree}
use Rattle.mmp_place.proofs.rule.narrow_nodes.Given as goal

-- those before v
abbrev pub invariant-loop-v : goal.invariant-loop-v
invariant-loop-v l = (w : ℕ) → has l.found w ≡ (nat_lt w l.v && nat_lt (degree l.g w) 3)

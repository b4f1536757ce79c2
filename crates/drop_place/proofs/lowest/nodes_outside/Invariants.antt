use Rattle.std.proofs.Common.{◌≡◌, ◌&&◌, ℕ, not, nat_lt}
use Rattle.tomo_base.specs.Sets.{has}
use Rattle.drop_place.proofs.lowest.nodes_outside.Given as goal

-- the nodes below v that are not in the set are kept, and no other
abbrev pub invariant-loop-v : goal.invariant-loop-v
invariant-loop-v l = (w : ℕ) → has l.kept w ≡ (nat_lt w l.v && not (has l.set w))

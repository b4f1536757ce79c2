use Rattle.tomo_base.specs.Search.{entry_at}
use Rattle.ear_order.proofs.Reaching.{Trailing}
use Rattle.ear_order.proofs.paths.trail.Given as goal

abbrev pub invariant-loop-v : goal.invariant-loop-v
invariant-loop-v l = Trailing l.g l.e l.found l.z l.path.items l.v

-- the rank falls to the parent
abbrev pub decreases-loop-v : goal.decreases-loop-v
decreases-loop-v l = entry_at l.found.rank.items l.v

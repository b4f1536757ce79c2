use Rattle.tomo_base.proofs.Paths.{IsWalkTo}
use Rattle.simple_path.proofs.monitor_path.is_walk.Given as goal

-- the nodes so far are linked
abbrev pub invariant-loop-i : goal.invariant-loop-i
invariant-loop-i l = IsWalkTo l.g l.path l.i

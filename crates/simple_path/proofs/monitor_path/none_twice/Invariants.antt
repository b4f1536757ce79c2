use Rattle.tomo_base.proofs.Paths.{IsNewTo}
use Rattle.simple_path.proofs.monitor_path.none_twice.Given as goal

-- the nodes so far differ from those before them
abbrev pub invariant-loop-i : goal.invariant-loop-i
invariant-loop-i l = IsNewTo l.path l.i

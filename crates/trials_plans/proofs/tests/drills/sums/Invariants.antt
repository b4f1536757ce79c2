use Rattle.std.proofs.Common.{◌≡◌, length}
use Rattle.trials_plans.proofs.tests.drills.sums.Given as goal

abbrev pub invariant-loop-i : goal.invariant-loop-i
invariant-loop-i l = length l.sums.items ≡ l.i

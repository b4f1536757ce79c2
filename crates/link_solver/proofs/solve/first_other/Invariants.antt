use Rattle.std.proofs.Common.{ℕ, ◌<◌}
use Rattle.link_solver.specs.Verdict.{HasSum}
use Rattle.link_solver.proofs.solve.first_other.Given as goal

abbrev pub invariant-loop-i : goal.invariant-loop-i
invariant-loop-i l = (k : ℕ) → k < l.i → HasSum l.g l.paths l.sums l.delays k

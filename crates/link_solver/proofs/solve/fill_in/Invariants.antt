use Rattle.std.proofs.Common.{length}
use Rattle.link_solver.proofs.Filling.{AreFilledTo}
use Rattle.link_solver.proofs.solve.fill_in.Given as goal

abbrev pub invariant-loop-i : goal.invariant-loop-i
invariant-loop-i l = AreFilledTo l.sums l.recipes (length l.recipes) l.i l.out-inside.delays.items

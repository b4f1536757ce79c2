use Rattle.link_solver.proofs.Filling.{IsDoubledTo}
use Rattle.link_solver.proofs.solve.balance_of.Given as goal

abbrev pub invariant-loop-term : goal.invariant-loop-term
invariant-loop-term l = IsDoubledTo l.sums l.terms l.term-index l.value.gain l.value.loss

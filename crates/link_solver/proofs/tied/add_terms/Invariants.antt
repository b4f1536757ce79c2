use Rattle.std.proofs.Common.{◌≡◌, take, length}
use Rattle.link_solver.specs.Tally.{others, GrewBy}
use Rattle.link_solver.proofs.tied.add_terms.Given as goal

abbrev pub invariant-loop-term : goal.invariant-loop-term
invariant-loop-term l = (length l.sums ≡ length l.initial.sums) × (l.count ≡ others l.sums) × GrewBy l.initial.sums l.sums (take l.term-index l.terms)

use Rattle.cert_check.proofs.Balances.{IsCleared}
use Rattle.cert_check.proofs.counts.Counts.clear.Given as goal

-- the counts of the links so far are 0
abbrev pub invariant-loop-i : goal.invariant-loop-i
invariant-loop-i l = IsCleared l.g.links l.initial.self.touched.items l.i l.self

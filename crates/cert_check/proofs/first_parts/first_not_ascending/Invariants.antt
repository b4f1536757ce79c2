use Rattle.cert_check.proofs.Places.{AscendTo}
use Rattle.cert_check.proofs.first_parts.first_not_ascending.Given as goal

-- the numbers so far ascend
abbrev pub invariant-loop-i : goal.invariant-loop-i
invariant-loop-i l = AscendTo l.n l.numbers l.i l.least

use Rattle.std.proofs.Common.{◌<◌, ℕ}
use Rattle.cert_check.specs.Faults.{AgreeAt}
use Rattle.cert_check.proofs.first_parts.first_other_link.Given as goal

-- the links so far agree
abbrev pub invariant-loop-i : goal.invariant-loop-i
invariant-loop-i l = (j : ℕ) → j < l.i → AgreeAt l.links l.given j

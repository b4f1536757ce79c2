use Rattle.std.proofs.Common.{◌<◌, ℕ}
use Rattle.cert_check.specs.Faults.{IsGoodPocketAt}
use Rattle.cert_check.proofs.Seen.{IsSeen}
use Rattle.cert_check.proofs.pockets.first_bad_pocket.Given as goal

-- the pockets so far are good, and the set has the forced nodes and theirs
abbrev pub invariant-loop-i : goal.invariant-loop-i
invariant-loop-i l = ((j : ℕ) → j < l.i → IsGoodPocketAt l.g l.p.forced l.p.pockets j) × IsSeen l.p.forced l.p.pockets l.i l.seen

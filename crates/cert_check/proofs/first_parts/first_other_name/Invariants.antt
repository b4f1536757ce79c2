use Rattle.std.proofs.Common.{◌<◌, ℕ}
use Rattle.cert_check.specs.Faults.{AgreeAt}
use Rattle.cert_check.proofs.first_parts.first_other_name.Given as goal

-- the names so far agree
abbrev pub invariant-loop-v : goal.invariant-loop-v
invariant-loop-v l = (j : ℕ) → j < l.v → AgreeAt l.names l.t.names j

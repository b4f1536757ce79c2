use Rattle.std.proofs.Common.{◌≡◌, length, reverse}
use Rattle.rows.specs.Blanks.{after_blanks}
use Rattle.rows.proofs.trim.without_last_blanks.Given as goal

abbrev pub invariant-loop-rest : goal.invariant-loop-rest
invariant-loop-rest l = after_blanks (reverse l.rest) ≡ after_blanks (reverse l.fn.field)

abbrev pub decreases-loop-rest : goal.decreases-loop-rest
decreases-loop-rest l = length l.rest

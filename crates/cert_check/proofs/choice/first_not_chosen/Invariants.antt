use Rattle.std.proofs.Common.{ℕ, ◌≡◌, ◌<◌, get_or}
use Rattle.tomo_base.specs.Sets.{has}
use Rattle.cert_check.proofs.Places.{AscendTo}
use Rattle.cert_check.proofs.choice.first_not_chosen.Given as goal

-- the numbers so far ascend, and are in the set or not, as is asked
abbrev pub invariant-loop-i : goal.invariant-loop-i
invariant-loop-i l = AscendTo l.n l.numbers l.i l.least × ((j : ℕ) → j < l.i → has l.set (get_or l.numbers j 0) ≡ l.inside)

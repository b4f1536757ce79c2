use Rattle.std.proofs.Common.{take}
use Rattle.tomo_base.specs.Sets.{has}
use Rattle.cert_check.proofs.Chosen.{HasBelow}
use Rattle.cert_check.proofs.choice.numbers_below.Given as goal

-- the set has the numbers below n so far
abbrev pub invariant-loop-v : goal.invariant-loop-v
invariant-loop-v l = HasBelow l.n (take l.v-index l.numbers) (has l.set)

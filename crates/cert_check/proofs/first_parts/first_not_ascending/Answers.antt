use Rattle.cert_check.proofs.Places.{not_ascending}
use Rattle.cert_check.proofs.first_parts.first_not_ascending.Goals as goal

pub returns-then-number-least-clause-some : goal.returns-then-number-least-clause-some
returns-then-number-least-clause-some c = (c.loop-i-test.true, (c.loop-i.invariant.each, not_ascending c.args.n c.args.numbers.now c.loop-i.i c.loop-i.least c.loop-i.invariant c.then-number-least.either))

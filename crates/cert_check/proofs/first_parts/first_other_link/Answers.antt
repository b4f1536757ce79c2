use Rattle.std.proofs.Common.{arith}
use Rattle.cert_check.proofs.Places.{same_items, ends_apart}
use Rattle.cert_check.proofs.first_parts.first_other_link.Goals as goal

pub returns-then-links-given-clause-none : goal.returns-then-links-given-clause-none
returns-then-links-given-clause-none c =
    same_items c.args.links.now c.args.given.now c.if-links-given.true (λ j l. c.loop-i.invariant j (omega (arith, l, c.loop-i-test.false, c.min-both.ensures, c.if-links-given.true)))

pub returns-else-links-given-clause-some : goal.returns-else-links-given-clause-some
returns-else-links-given-clause-some c =
    (λ j l. c.loop-i.invariant j (omega (arith, l, c.loop-i-test.false)), ends_apart c.args.links.now c.args.given.now c.min-both.result (omega (arith, c.min-both.ensures)) (λ same. c.if-links-given.false same))

use Rattle.std.proofs.Common.{arith}
use Rattle.tomo_base.proofs.Counts.{count-none}
use Rattle.tomo_base.proofs.Meeting.{tells_one, tells_two}
use Rattle.tomo_base.proofs.met.Met.count.Goals as goal

pub returns-in-None : goal.returns-in-None
returns-in-None c = λ n q is. let none = rw c.in-None.is at is in omega (arith, count-none n q (λ w l. none w))

pub returns-in-One : goal.returns-in-One
returns-in-One c = λ n q is. omega (arith, tells_one n q c.in-One.field-0 (rw c.in-One.is at is))

pub returns-in-Two : goal.returns-in-Two
returns-in-Two c = λ n q is. omega (arith, tells_two n q c.in-Two.field-0 c.in-Two.field-1 (rw c.in-Two.is at is))

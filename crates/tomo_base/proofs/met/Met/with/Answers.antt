use Rattle.std.proofs.Common.{◌≢◌, arith}
use Rattle.std.proofs.lemmas.Bool.Decides.{nat_tests}
use Rattle.tomo_base.proofs.Meeting.{tells_third, tells_more}
use Rattle.tomo_base.proofs.met.Met.with.Goals as goal
use Rattle.tomo_base.proofs.met.Met.with.Goals.{then-a-v-2, else-a-v-2}

pub returns-else-b-v : goal.returns-else-b-v
returns-else-b-v c = elim c.if-a-v-2.branch [
  | then-a-v-2 w ↦ absurd (grind (arith, nat_tests))
  | else-a-v-2 w ↦
      let first : c.in-Two.a ≢ c.args.v = grind (arith, nat_tests) in
      let second : c.in-Two.b ≢ c.args.v = grind (arith, nat_tests) in
      λ n q l is. tells_third n q c.args.v c.in-Two.a c.in-Two.b l first second (rw c.in-Two.is at is)
]

pub returns-in-More : goal.returns-in-More
returns-in-More c = λ n q l is. tells_more n q c.args.v (rw c.in-More.is at is)

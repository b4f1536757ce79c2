use Rattle.std.proofs.Common.{refl}
use Rattle.tomo_base.specs.Sets.{has}
use Rattle.cert_check.proofs.Chosen.{below_none, below_more, below_same}
use Rattle.cert_check.proofs.choice.numbers_below.Goals as goal
use Rattle.cert_check.proofs.choice.numbers_below.Goals.{then-v-n+in_ok-insert, else-v-n}

pub loop-v-init : goal.loop-v-init
loop-v-init c = rw c.new-set.ensures (below_none c.args.n c.args.numbers.now)

pub loop-v-preserved : goal.loop-v-preserved
loop-v-preserved c = elim c.if-v-n.branch [
  | then-v-n+in_ok-insert w ↦ rw w.set-is (below_more c.args.n c.loop-v.v-index 0 _ c.args.numbers.now c.loop-v-test.true refl (has c.loop-v.set) (has w.insert.new.self) w.if-v-n.true c.loop-v.invariant w.in_ok-insert.ensures.nodes)
  | else-v-n w ↦ rw w.set-is (below_same c.args.n c.loop-v.v-index 0 _ c.args.numbers.now c.loop-v-test.true refl (has c.loop-v.set) w.if-v-n.false c.loop-v.invariant)
]

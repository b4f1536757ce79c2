use Rattle.std.proofs.Common.{decimal}
use Rattle.plan_form.specs.Spelling.{space}
use Rattle.plan_form.proofs.Joining.{join_start, join_on}
use Rattle.plan_form.proofs.write.numbers_joined.Goals as goal
use Rattle.plan_form.proofs.write.numbers_joined.Goals.{then-i-gt0+in_ok-push, else-i-gt0}

pub loop-i-preserved : goal.loop-i-preserved
loop-i-preserved c = elim c.if-i-gt0.branch [
  | then-i-gt0+in_ok-push w ↦ rw (c.in_ok-extend_from_slice.ensures.items, w.text-is, w.in_ok-push.ensures.items, c.loop-i.invariant, c.as_bytes.ensures.value, c.format.ensures.text)
      (join_on space decimal c.args.numbers.now c.loop-i.i 0 w.if-i-gt0.true c.loop-i-test.true)
  | else-i-gt0 w ↦ rw (c.in_ok-extend_from_slice.ensures.items, w.text-is, c.loop-i.invariant, c.as_bytes.ensures.value, c.format.ensures.text)
      (join_start space decimal c.args.numbers.now c.loop-i.i 0 w.if-i-gt0.false c.loop-i-test.true)
]

use Rattle.std.proofs.Common.{pos}
use Rattle.plan_form.specs.Spelling.{space, term_text}
use Rattle.plan_form.proofs.Joining.{join_start, join_on}
use Rattle.plan_form.proofs.write.terms_joined.Goals as goal
use Rattle.plan_form.proofs.write.terms_joined.Goals.{then-i-gt0+in_ok-push, else-i-gt0}

pub loop-i-preserved : goal.loop-i-preserved
loop-i-preserved c = elim c.if-i-gt0.branch [
  | then-i-gt0+in_ok-push w ↦ rw (c.in_ok-term_joined.ensures, w.text-is, w.in_ok-push.ensures.items, c.loop-i.invariant)
      (join_on space term_text c.args.terms.now c.loop-i.i (record { coef = pos 0; path = 0 }) w.if-i-gt0.true c.loop-i-test.true)
  | else-i-gt0 w ↦ rw (c.in_ok-term_joined.ensures, w.text-is, c.loop-i.invariant)
      (join_start space term_text c.args.terms.now c.loop-i.i (record { coef = pos 0; path = 0 }) w.if-i-gt0.false c.loop-i-test.true)
]

use Rattle.std.proofs.Common.{arith}
use Rattle.cert_check.proofs.Uses.{all_more}
use Rattle.cert_check.proofs.steps.steps_of_all.Goals as goal

pub loop-i-preserved : goal.loop-i-preserved
loop-i-preserved c =
    rw c.in_ok-push.ensures.items (all_more c.args.g.now.links c.args.paths.now c.loop-i.i c.loop-i.all.items _ (omega (arith, c.loop-i-test.true, c.len-i-end.ensures.len)) c.loop-i.invariant (rw c.path.ensures at c.in_ok-steps_of.ensures))

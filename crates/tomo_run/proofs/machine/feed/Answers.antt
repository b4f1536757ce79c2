use Rattle.tomo_run.proofs.Taking.{whole_answers}
use Rattle.tomo_run.proofs.machine.feed.Goals as goal

pub returns-in-Whole-clause-steps : goal.returns-in-Whole-clause-steps
returns-in-Whole-clause-steps c = rw c.in-Whole.is (whole_answers c.args.wants c.args.name.now c.args.content.items c.take_in.result c.take_in.ensures.taken)

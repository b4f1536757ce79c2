use Rattle.tomo_base.proofs.Rows.{any_joins-from}
use Rattle.trials_plans.proofs.tests.ears.are_linked.Goals as goal

pub returns-in-Some : goal.returns-in-Some
returns-in-Some c = λ yes. any_joins-from c.args.g.now.links c.in-Some._link c.args.a c.args.b c.in-Some.ensures.found

use Rattle.trials_plans.proofs.tests.checking.report_of_lowest.Goals as goal

pub plan_for-requires-clause-identifies : goal.plan_for-requires-clause-identifies
plan_for-requires-clause-identifies c = (rw c.graph.ensures.graph at c.in_ok-monitors.ensures.lowest).identifies

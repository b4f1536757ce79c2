use Rattle.std.proofs.Common.{◌≡◌}
use Rattle.trials_ground.proofs.tests.flows.widen_all.Given as goal

-- the flow is one over the graph
abbrev pub invariant-loop : goal.invariant-loop
invariant-loop l = l.flow.graph ≡ l.g

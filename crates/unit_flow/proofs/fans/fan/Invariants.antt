use Rattle.std.proofs.Common.{◌≡◌, [], length}
use Rattle.unit_flow.specs.Flows.{no_paths, IsFlow, routing_task}
use Rattle.unit_flow.proofs.fans.fan.Given as goal

-- the flow has as many paths as there were rounds
abbrev pub invariant-loop : goal.invariant-loop
invariant-loop l =
    (l.flow ≡ record (no_paths l.g l.source l.targets []) { paths = l.flow.paths }) × IsFlow (routing_task (no_paths l.g l.source l.targets [])) l.flow.paths × (length l.flow.paths ≡ l.counter)

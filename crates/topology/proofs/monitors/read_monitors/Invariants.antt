use Rattle.std.proofs.Common.{◌<◌, All}
use Rattle.std.specs.List.Sorted.{IsStrictlyIncreasing}
use Rattle.topology.proofs.Named.{HasNamed}
use Rattle.topology.proofs.monitors.read_monitors.Given as goal

abbrev pub invariant-loop-place : goal.invariant-loop-place
invariant-loop-place l = HasNamed l.t.names l.rows.closed l.monitors l.place × IsStrictlyIncreasing l.monitors × All (λ v. v < l.t.graph.nodes) l.monitors

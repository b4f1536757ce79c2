use Rattle.std.proofs.Common.{◌<◌}
use Rattle.three_conn.proofs.connection.busiest.Given as goal

abbrev pub invariant-loop-v : goal.invariant-loop-v
invariant-loop-v l = l.most < l.g.nodes

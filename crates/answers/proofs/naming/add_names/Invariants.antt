use Rattle.std.proofs.Common.{◌≡◌}
use Rattle.answers.proofs.NodeNames.{named}
use Rattle.answers.proofs.naming.add_names.Given as goal

-- the names so far are added
abbrev pub invariant-loop-v : goal.invariant-loop-v
invariant-loop-v l = l.rows ≡ named l.initial.rows l.topology.names l.nodes l.v-index

use Rattle.plan_form.proofs.Numbering.{Added}
use Rattle.answers.specs.Growing.{grown_row}
use Rattle.answers.proofs.growing.add_nodes.Given as goal

-- the rows of the nodes so far were added
abbrev pub invariant-loop-v : goal.invariant-loop-v
invariant-loop-v l = Added (grown_row l.t) l.topology.names l.initial.rows l.v l.rows

use Rattle.plan_form.specs.PlanRows.{node_row}
use Rattle.plan_form.proofs.Numbering.{Added}
use Rattle.answers.proofs.components.add_nodes.Given as goal

-- the rows of the nodes so far were added
abbrev pub invariant-loop-v : goal.invariant-loop-v
invariant-loop-v l = Added node_row l.topology.names l.initial.rows l.v l.rows

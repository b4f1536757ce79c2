use Rattle.answers.specs.Rounds.{ends_row}
use Rattle.plan_form.proofs.Numbering.{Added}
use Rattle.answers.proofs.solving.add_links.Given as goal

-- the rows of the first links were added
abbrev pub invariant-loop-i : goal.invariant-loop-i
invariant-loop-i l = Added (ends_row l.topology.names) l.links l.initial.rows l.i l.rows

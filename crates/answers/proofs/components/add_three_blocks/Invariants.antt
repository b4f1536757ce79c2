use Rattle.plan_form.proofs.Numbering.{Added}
use Rattle.answers.specs.Components.{three_row}
use Rattle.answers.proofs.components.add_three_blocks.Given as goal

-- the rows of the three-blocks so far were added
abbrev pub invariant-loop-i : goal.invariant-loop-i
invariant-loop-i l = Added (three_row l.homes) l.sets l.initial.rows l.i l.rows

use Rattle.plan_form.proofs.Numbering.{Added}
use Rattle.answers.specs.Components.{block_row}
use Rattle.answers.proofs.components.add_blocks.Given as goal

-- the rows of the blocks so far were added
abbrev pub invariant-loop-i : goal.invariant-loop-i
invariant-loop-i l = Added block_row l.blocks l.initial.rows l.i l.rows

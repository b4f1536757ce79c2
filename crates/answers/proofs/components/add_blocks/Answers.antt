use Rattle.std.proofs.Common.{[], arith}
use Rattle.plan_form.proofs.Numbering.{added_none, added_more}
use Rattle.answers.specs.Components.{block_row}
use Rattle.answers.proofs.components.add_blocks.Goals as goal

pub loop-i-init : goal.loop-i-init
loop-i-init c = added_none block_row c.args.blocks.now c.args.rows.now c.requires.none

pub loop-i-preserved : goal.loop-i-preserved
loop-i-preserved c = added_more block_row c.args.blocks.now c.args.rows.now c.loop-i.rows c.add_list.new.rows c.loop-i.i [] (omega (arith, c.loop-i-test.true, c.len-i-end.ensures)) c.loop-i.invariant (rw (c.as_slice.ensures.nodes, c.at.ensures) at c.in_ok-add_list.ensures)

use Rattle.std.proofs.Common.{[], arith}
use Rattle.plan_form.proofs.Numbering.{added_none, added_more}
use Rattle.answers.specs.Components.{three_row}
use Rattle.answers.proofs.components.add_three_blocks.Goals as goal

pub loop-i-init : goal.loop-i-init
loop-i-init c = added_none (three_row c.args.homes.now) c.args.sets.now c.args.rows.now c.requires.none

pub loop-i-preserved : goal.loop-i-preserved
loop-i-preserved c = added_more (three_row c.args.homes.now) c.args.sets.now c.args.rows.now c.loop-i.rows c.add_counted.new.rows c.loop-i.i [] (omega (arith, c.loop-i-test.true, c.len-i-end.ensures)) c.loop-i.invariant
    (rw (c.deref.ensures.value, c.in_ok-numbers_joined.ensures, c.as_slice.ensures.nodes, c.at.ensures) at c.in_ok-add_counted.ensures)

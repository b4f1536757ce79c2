use Rattle.plan_form.specs.PlanRows.{link_row}
use Rattle.plan_form.proofs.Numbering.{added_none, added_more}
use Rattle.plan_form.proofs.write.add_links.Goals as goal

pub loop-i-init : goal.loop-i-init
loop-i-init c = added_none link_row c.args.links.now c.args.rows.now c.requires.0

pub loop-i-preserved : goal.loop-i-preserved
loop-i-preserved c = added_more link_row c.args.links.now c.args.rows.now c.loop-i.rows c.add_counted.new.rows c.loop-i.i (record { a = 0; b = 0 }) c.loop-i-test.true c.loop-i.invariant (rw (c.as_bytes.ensures.value, c.format.ensures.text) at c.in_ok-add_counted.ensures)

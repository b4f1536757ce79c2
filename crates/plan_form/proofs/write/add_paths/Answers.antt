use Rattle.std.proofs.Common.{arith, []}
use Rattle.plan_form.specs.PlanRows.{path_row}
use Rattle.plan_form.proofs.Numbering.{added_none, added_more}
use Rattle.plan_form.proofs.write.add_paths.Goals as goal

pub loop-i-init : goal.loop-i-init
loop-i-init c = added_none path_row c.args.paths.now c.args.rows.now c.requires.0

pub loop-i-preserved : goal.loop-i-preserved
loop-i-preserved c = added_more path_row c.args.paths.now c.args.rows.now c.loop-i.rows c.add_list.new.rows c.loop-i.i [] (omega (arith, c.loop-i-test.true, c.len-i-end.ensures.len)) c.loop-i.invariant (rw c.path.ensures at c.in_ok-add_list.ensures)

use Rattle.std.proofs.Common.{arith, []}
use Rattle.plan_form.specs.PlanRows.{recipe_row}
use Rattle.plan_form.proofs.Numbering.{added_none, added_more}
use Rattle.plan_form.proofs.write.add_recipes.Goals as goal

pub loop-i-init : goal.loop-i-init
loop-i-init c = added_none recipe_row c.args.recipes.now c.args.rows.now c.requires.0

pub loop-i-preserved : goal.loop-i-preserved
loop-i-preserved c = added_more recipe_row c.args.recipes.now c.args.rows.now c.loop-i.rows c.add_numbered.new.rows c.loop-i.i [] (omega (arith, c.loop-i-test.true, c.len-i-end.ensures)) c.loop-i.invariant (rw (c.deref.ensures.value, c.in_ok-terms_joined.ensures, c.terms.ensures.terms, c.at.ensures) at c.in_ok-add_numbered.ensures)

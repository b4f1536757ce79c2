use Rattle.plan_form.specs.PlanRows.{recipe_row}
use Rattle.plan_form.proofs.Numbering.{Added}
use Rattle.plan_form.proofs.write.add_recipes.Given as goal

abbrev pub invariant-loop-i : goal.invariant-loop-i
invariant-loop-i l = Added recipe_row l.recipes l.initial.rows l.i l.rows

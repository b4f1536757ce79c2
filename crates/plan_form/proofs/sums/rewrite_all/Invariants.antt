use Rattle.plan_form.specs.Steps.{number_in}
use Rattle.plan_form.proofs.Tallies.{AreRewritten}
use Rattle.plan_form.proofs.sums.rewrite_all.Given as goal

abbrev pub invariant-loop-i : goal.invariant-loop-i
invariant-loop-i l = AreRewritten (number_in l.numbers) l.recipes l.i l.all

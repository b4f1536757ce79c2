use Rattle.plan_form.specs.Steps.{number_in}
use Rattle.plan_form.proofs.Tallies.{AreTallied}
use Rattle.plan_form.proofs.sums.add_up.Given as goal

abbrev pub invariant-loop-term : goal.invariant-loop-term
invariant-loop-term l = AreTallied (number_in l.numbers) l.terms l.term-index l.tallies.items

use Rattle.std.proofs.Common.{◌∙◌, sym}
use Rattle.plan_form.proofs.Tallies.{rewritten_more, where_ok}
use Rattle.plan_form.specs.Steps.{number_in}
use Rattle.plan_form.proofs.sums.rewrite_all.Goals as goal

pub rewrite-requires-clause-short : goal.rewrite-requires-clause-short
rewrite-requires-clause-short c = rw (c.terms.ensures.terms, c.at.ensures) (λ new. c.requires.short c.loop-i.i new (rw c.len-i-end.ensures at c.loop-i-test.true))

pub loop-i-preserved : goal.loop-i-preserved
loop-i-preserved c =
    let pushed = where_ok c.push.result _ c.push.ensures.ok (sym c.is_err.ensures.value ∙ c.if-is_err.false) in
    rw pushed (rewritten_more (number_in c.args.numbers.now) c.args.recipes.now c.loop-i.all c.loop-i.i c.in_ok-recipe.recipe (rw (c.terms.ensures.terms, c.at.ensures) at c.in_ok-recipe.ensures) c.loop-i.invariant)

use Rattle.plan_form.proofs.Built.{rewritten_short, built}
use Rattle.plan_form.proofs.arranging.arrange.Goals as goal

pub rewrite_all-requires-clause-short : goal.rewrite_all-requires-clause-short
rewrite_all-requires-clause-short c =
    rw c.deref.ensures.value (rewritten_short c.args.pool.now c.args.recipes.now c.in_ok-ordered.ordered.paths c.in_ok-ordered.ordered.numbers.items c.requires c.in_ok-ordered.ensures.ordered)

pub returns-clause-built : goal.returns-clause-built
returns-clause-built c =
    built c.args.pool.now c.args.recipes.now c.in_ok-ordered.ordered.paths c.in_ok-ordered.ordered.numbers.items c.in_ok-recipes.recipes c.requires c.in_ok-ordered.ensures.ordered c.in_ok-recipes.ensures.one_each
    (rw c.deref.ensures.value at c.in_ok-recipes.ensures.merged)

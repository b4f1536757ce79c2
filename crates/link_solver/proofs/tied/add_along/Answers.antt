use Rattle.std.proofs.Common.{◌∙◌, arith, refl, subst}
use Rattle.tomo_base.specs.Walks.{IsWalk}
use Rattle.simple_path.proofs.Along.{first_and_rest}
use Rattle.plan_form.specs.Tied.{recipe_between}
use Rattle.link_solver.specs.Tally.{GrewBy}
use Rattle.link_solver.proofs.Tallying.{none_along, tallied_none, tallied, next_linked, all_tallied}
use Rattle.link_solver.proofs.tied.add_along.Goals as goal

pub returns-in_default-clause-sums : goal.returns-in_default-clause-sums
returns-in_default-clause-sums c = none_along c.args.g.now.links c.args.recipes.now c.args.path.now c.args.sums.now (omega (arith, c.in_default.len_below))

pub loop-node-init : goal.loop-node-init
loop-node-init c = (refl, c.requires.count, tallied_none c.args.g.now (recipe_between c.args.g.now.links c.args.recipes.now) _ _ c.args.sums.now (subst (IsWalk c.args.g.now) (first_and_rest c.args.path.now c.in-len1-up.len_at_least) c.requires.walk))

pub recipe_of-recipe-requires-clause-linked : goal.recipe_of-recipe-requires-clause-linked
recipe_of-recipe-requires-clause-linked c =
    next_linked c.args.g.now (recipe_between c.args.g.now.links c.args.recipes.now) _ _ c.loop-node.node-index c.loop-node.from c.args.sums.now c.loop-node.sums 0 c.loop-node-test.true c.loop-node.invariant.2

pub loop-node-preserved : goal.loop-node-preserved
loop-node-preserved c =
    let recipe = c.terms.ensures.terms ∙ c.recipe_of-recipe.ensures in (
      c.add_terms.ensures.length ∙ c.loop-node.invariant.0,
      c.in_ok-count.ensures.count,
      tallied c.args.g.now (recipe_between c.args.g.now.links c.args.recipes.now) _ _ c.loop-node.node-index c.loop-node.from c.args.sums.now c.loop-node.sums c.add_terms.new.sums 0 c.loop-node-test.true c.loop-node.invariant.2
          (subst (GrewBy c.loop-node.sums c.add_terms.new.sums) recipe c.in_ok-count.ensures.sums),
    )

pub returns-clause-sums : goal.returns-clause-sums
returns-clause-sums c =
    rw (first_and_rest c.args.path.now c.in-len1-up.len_at_least)
    (all_tallied c.args.g.now (recipe_between c.args.g.now.links c.args.recipes.now) _ _ c.loop-node.node-index c.loop-node.from c.args.sums.now c.loop-node.sums (omega (arith, c.loop-node-test.false)) c.loop-node.invariant.2)

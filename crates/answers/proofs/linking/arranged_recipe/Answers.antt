use Rattle.std.proofs.Common.{◌≡◌, ◌∷◌, ◌++◌, [], get_or, arith, rules}
use Rattle.std.proofs.lemmas.Result.{IfOk-weaker}
use Rattle.tomo_base.specs.Sets.{has}
use Rattle.plan_form.proofs.Built.{good_paths, rewritten_within}
use Rattle.plan_form.proofs.Formed.{nodes_below}
use Rattle.answers.proofs.CrossTerms.{arrangeable, link_recipe, paths_measured}
use Rattle.answers.proofs.linking.arranged_recipe.Goals as goal
use Rattle.answers.proofs.linking.arranged_recipe.Goals.{After-recipes-2}

pub arrange-requires : goal.arrange-requires
arrange-requires c =
    let adds = rw (c.new-pool.ensures, c.graph.ensures.graph) at c.in_ok-terms.ensures.ok in
    let pushed : c.push.new.self ≡ c.new-recipes.result ++ c.in_ok-terms.terms ∷ [] = search rules in
    let one : c.push.new.self ≡ c.in_ok-terms.terms ∷ [] = rw c.new-recipes.ensures at pushed in
    rw one (arrangeable c.args.placed.now.topology.graph (has c.args.placed.now.monitors) c.args.link c.recipe.new.pool c.in_ok-terms.terms adds)

pub returns-clause-recipe : goal.returns-clause-recipe
returns-clause-recipe c =
    let adds = rw (c.new-pool.ensures, c.graph.ensures.graph) at c.in_ok-terms.ensures.ok in
    let pushed : c.push.new.self ≡ c.new-recipes.result ++ c.in_ok-terms.terms ∷ [] = search rules in
    let one : c.push.new.self ≡ c.in_ok-terms.terms ∷ [] = rw c.new-recipes.ensures at pushed in
    IfOk-weaker c.arrange.result _ _ (λ a built. link_recipe c.args.placed.now.topology.graph (has c.args.placed.now.monitors) c.args.link c.recipe.new.pool c.in_ok-terms.terms adds a.paths a.recipes built)
    (rw one at c.arrange.ensures.built)

pub returns-clause-terms : goal.returns-clause-terms
returns-clause-terms c =
    let pushed : c.push.new.self ≡ c.new-recipes.result ++ c.in_ok-terms.terms ∷ [] = search rules in
    let one : c.push.new.self ≡ c.in_ok-terms.terms ∷ [] = rw c.new-recipes.ensures at pushed in
    IfOk-weaker c.arrange.result _ _ (λ a built. rewritten_within c.recipe.new.pool a.paths c.in_ok-terms.terms (get_or a.recipes 0 []) (built.recipes 0 (omega arith)))
    (rw one at c.arrange.ensures.built)

pub returns-clause-nodes : goal.returns-clause-nodes
returns-clause-nodes c =
    let g = c.args.placed.now.topology.graph in
    let m = has c.args.placed.now.monitors in
    let adds = rw (c.new-pool.ensures, c.graph.ensures.graph) at c.in_ok-terms.ensures.ok in
    IfOk-weaker c.arrange.result _ _ (λ a built k d l.
    nodes_below g m (get_or a.paths k d) c.graph.ensures.topology.graph ((good_paths g m c.recipe.new.pool c.push.new.self a.paths a.recipes (paths_measured g m c.args.link c.recipe.new.pool c.in_ok-terms.terms adds) built).each k d l))
    c.arrange.ensures.built

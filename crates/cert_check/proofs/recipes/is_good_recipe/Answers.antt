use Rattle.std.proofs.Common.{arith}
use Rattle.simple_path.specs.Terms.{path_terms}
use Rattle.cert_check.proofs.Balances.{counts_small, coefficients}
use Rattle.cert_check.proofs.recipes.is_good_recipe.Goals as goal

pub is_recipe-good-requires-clause-room : goal.is_recipe-good-requires-clause-room
is_recipe-good-requires-clause-room c = λ k.
    omega (arith, (counts_small c.args.g.now.links c.args.paths.now c.args.terms.now c.count_terms.new.counts c.requires.formed.1 (coefficients c.args.terms.now c.requires.formed.2) c.len.ensures.few_nodes c.in_ok-count_terms.ensures k).1)

pub returns-clause-good : goal.returns-clause-good
returns-clause-good c =
    let exact = c.is_recipe-good.ensures (path_terms c.args.paths.now c.args.terms.now) c.in_ok-count_terms.ensures in
    let named = c.name_paths.ensures.0 c.if-not-name_paths.false in
    (λ t. record { names = rw c.len.ensures.len at named.0; ascending = named.1; recipe = exact.0 t }, λ good. exact.1 good.recipe)

use Rattle.stpc_paths.proofs.Laying.{no_root, root_link, root_below}
use Rattle.stpc_paths.proofs.recipes.recipes_of.Goals as goal

pub recipe_of-requires-clause-named : goal.recipe_of-requires-clause-named
recipe_of-requires-clause-named c =
    let ends = root_below c.args.t.now c.args.roots.now c.loop-link.link no_root c.requires.rooted.forest c.requires.rooted.roots c.loop-link-test.true in
    record { monitors = c.requires.rooted.monitors; few_nodes = c.requires.rooted.few_nodes; node = ends.0; other = ends.1; size = c.requires.size }

pub recipe_of-requires-clause-owned : goal.recipe_of-requires-clause-owned
recipe_of-requires-clause-owned c = (root_link c.args.t.now c.args.roots.now c.loop-link.link no_root c.requires.rooted.roots c.loop-link-test.true).2.owned

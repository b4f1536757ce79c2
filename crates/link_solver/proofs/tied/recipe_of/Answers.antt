use Rattle.std.proofs.Common.{◌∙◌, [], get_or, arith, sym, ap}
use Rattle.tomo_base.proofs.Links.{linked_below}
use Rattle.simple_path.proofs.Along.{place_below}
use Rattle.plan_form.proofs.Tied.{place_is}
use Rattle.link_solver.proofs.tied.recipe_of.Goals as goal

pub between-requires-clause-first : goal.between-requires-clause-first
between-requires-clause-first c = (linked_below c.args.g.now.nodes c.args.g.now.links c.args.a c.args.b c.nodes-nodes.ensures.graph c.requires.linked).0

pub between-requires-clause-second : goal.between-requires-clause-second
between-requires-clause-second c = (linked_below c.args.g.now.nodes c.args.g.now.links c.args.a c.args.b c.nodes-nodes.ensures.graph c.requires.linked).1

pub at-requires : goal.at-requires
at-requires c = omega (arith, place_below c.args.g.now.links c.in-Some.link c.args.a c.args.b c.in-Some.ensures.found, c.requires.one_each)

pub returns : goal.returns
returns c = c.at.ensures ∙ ap (λ k. get_or c.args.recipes.now k []) (sym (place_is c.args.g.now c.args.a c.args.b c.in-Some.link c.nodes-nodes.ensures.graph c.in-Some.ensures.found c.requires.linked))

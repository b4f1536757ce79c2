use Rattle.std.proofs.Common.{ap₂, sym, subst, arith}
use Rattle.std.proofs.lemmas.Result.{IfOk-weaker}
use Rattle.tomo_base.specs.Sets.{has}
use Rattle.cross_links.specs.Joining.{three_terms}
use Rattle.cross_links.proofs.Recipes.{MakesRecipe, makes_three}
use Rattle.cross_links.proofs.Naming.{names_recipe}
use Rattle.cross_links.proofs.crossing.to_monitor.Goals.{After-path-2}
use Rattle.cross_links.proofs.crossing.to_monitor.Goals as goal

-- the terms of the two ways
makes : (c : After-path-2) → MakesRecipe c.args.g.now (has c.args.m.now) c.args.v c.args.w 3 (three_terms c.args.w c.path.result.now c.path-2.result.now)
makes c =
    subst (MakesRecipe c.args.g.now (has c.args.m.now) c.args.v c.args.w 3) (sym (ap₂ (λ a b. three_terms c.args.w a b) c.path.ensures c.path-2.ensures))
    (makes_three c.args.g.now (has c.args.m.now) c.requires.link.graph c.args.v c.args.w c.requires.link.linked c.requires.link.plain c.requires.monitor c.in_ok-ways.ways c.in_ok-ways.ensures.flow c.in_ok-ways.ensures.two)

pub three_paths-requires-clause-room : goal.three_paths-requires-clause-room
three_paths-requires-clause-room c = omega (arith, (makes c).room, c.requires.room)

pub returns-clause-ok : goal.returns-clause-ok
returns-clause-ok c = IfOk-weaker c.three_paths.result _ _ (λ r names i at.
    names_recipe c.args.g.now (has c.args.m.now) i c.args.pool.now c.three_paths.new.pool r (three_terms c.args.w c.path.result.now c.path-2.result.now) c.requires.link.graph names
    ((makes (goal.at.returns-clause-ok c).After-path-2).recipe i at)) c.three_paths.ensures.ok

use Rattle.std.proofs.Common.{arith}
use Rattle.link_solver.proofs.Agreeing.{names_paths}
use Rattle.link_solver.proofs.tied.are_tied.Goals as goal

pub is_tied-requires-clause-names : goal.is_tied-requires-clause-names
is_tied-requires-clause-names c = rw c.recipes.ensures.recipes (λ i k d l. let names = names_paths c.args.g.now c.args.p.now.paths c.args.p.now.recipes c.requires.recipes i k d l in omega (arith, names))

use Rattle.stpc_paths.proofs.Adding.{TermsTo}
use Rattle.stpc_paths.proofs.recipes.recipes_of.Given as goal

abbrev pub invariant-loop-link : goal.invariant-loop-link
invariant-loop-link l = TermsTo l.t l.names l.roots l.link l.recipes

use Rattle.stpc_paths.proofs.Rooting.{RootsTo}
use Rattle.stpc_paths.proofs.roots.roots_of.Given as goal

abbrev pub invariant-loop-link : goal.invariant-loop-link
invariant-loop-link l = RootsTo l.t l.link-items l.link-index l.roots.items

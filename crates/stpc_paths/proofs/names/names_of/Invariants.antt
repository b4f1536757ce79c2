use Rattle.stpc_paths.proofs.PuttingNames.{NamedTo}
use Rattle.stpc_paths.proofs.names.names_of.Given as goal

abbrev pub invariant-loop-link : goal.invariant-loop-link
invariant-loop-link l = NamedTo l.t l.link l.names.items

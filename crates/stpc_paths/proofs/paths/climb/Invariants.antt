use Rattle.stpc_paths.proofs.TreePaths.{ClimbsTo}
use Rattle.stpc_paths.proofs.paths.climb.Given as goal

abbrev pub invariant-loop : goal.invariant-loop
invariant-loop l = ClimbsTo l.t l.tree l.from l.node l.counter l.initial.out.items l.out.items

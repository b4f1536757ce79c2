use Rattle.stpc_paths.proofs.Laying.{PathsTo}
use Rattle.stpc_paths.proofs.paths.lay_paths.Given as goal

abbrev pub invariant-loop-root : goal.invariant-loop-root
invariant-loop-root l = PathsTo l.t l.roots l.root-index l.pool

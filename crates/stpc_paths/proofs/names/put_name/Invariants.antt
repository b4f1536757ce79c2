use Rattle.stpc_paths.proofs.PuttingNames.{NamesTo}
use Rattle.stpc_paths.proofs.names.put_name.Given as goal

abbrev pub invariant-loop : goal.invariant-loop
invariant-loop l = NamesTo l.t l.tree l.from l.node l.counter l.name l.initial.names.items l.names.items

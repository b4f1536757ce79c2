use Rattle.std.proofs.Common.{◌≡◌}
use Rattle.topology.specs.Numbered.{decimals}
use Rattle.topology.proofs.names.Names.decimals.Given as goal

abbrev pub invariant-loop-v : goal.invariant-loop-v
invariant-loop-v l = l.names ≡ decimals l.v

use Rattle.std.proofs.Common.{◌≡◌}
use Rattle.drill.specs.Draws.{state}
use Rattle.drill.specs.Generated.{generated}
use Rattle.drill.proofs.network.network.Given as goal

abbrev pub invariant-loop-k : goal.invariant-loop-k
invariant-loop-k l = (l.draws ≡ state l.initial.draws l.k) × (l.network ≡ generated l.initial.draws l.n l.k)

use Rattle.std.proofs.Common.{◌≡◌, ◌<◌, ◌++◌}
use Rattle.drill.specs.Generated.{pairs_of}
use Rattle.drill.proofs.pairs.add_pairs.Given as goal

abbrev pub invariant-loop-b : goal.invariant-loop-b
invariant-loop-b l = (l.a < l.b) × (l.pairs.items ≡ l.initial.pairs.items ++ pairs_of l.a l.b)

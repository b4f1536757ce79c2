use Rattle.std.proofs.Common.{◌≡◌}
use Rattle.drill.specs.Generated.{pairs_below}
use Rattle.drill.proofs.pairs.all_pairs.Given as goal

abbrev pub invariant-loop-a : goal.invariant-loop-a
invariant-loop-a l = l.pairs.items ≡ pairs_below l.n l.a

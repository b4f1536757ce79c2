use Rattle.std.proofs.Common.{◌≡◌, length}
use Rattle.samples.proofs.graphs.graph_with.Given as goal

abbrev pub invariant-loop-a : goal.invariant-loop-a
invariant-loop-a l = length l.links.items ≡ l.a-index

use Rattle.simple_path.proofs.Along.{Summing}
use Rattle.simple_path.proofs.sums.sum_along.Given as goal

abbrev pub invariant-loop-node : goal.invariant-loop-node
invariant-loop-node l = Summing l.g l.delays l.initial.from l.rest l.node-index l.from l.sum

use Rattle.std.proofs.Common.{map}
use Rattle.unit_flow.proofs.Sorting.{Sorted}
use Rattle.unit_flow.proofs.order.by_second.Given as goal

-- the paths whose second node is below v are in the pool
abbrev pub invariant-loop-v : goal.invariant-loop-v
invariant-loop-v l = Sorted (map (λ p. p.items) l.paths) l.pool l.v

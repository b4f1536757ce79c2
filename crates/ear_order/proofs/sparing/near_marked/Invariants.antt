use Rattle.std.proofs.Common.{◌<◌, All}
use Rattle.ear_order.proofs.sparing.near_marked.Given as goal

abbrev pub invariant-loop-v : goal.invariant-loop-v
invariant-loop-v l = All (λ w. w < l.g.nodes) l.nodes.items

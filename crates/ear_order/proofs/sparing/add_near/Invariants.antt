use Rattle.std.proofs.Common.{◌<◌, All}
use Rattle.ear_order.proofs.sparing.add_near.Given as goal

abbrev pub invariant-loop-hop : goal.invariant-loop-hop
invariant-loop-hop l = All (λ w. w < l.g.nodes) l.nodes.items

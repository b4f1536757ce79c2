use Rattle.std.proofs.Common.{◌≡◌, take}
use Rattle.cert_check.proofs.pockets.node_set.Given as goal

-- the set has the nodes so far
abbrev pub invariant-loop-v : goal.invariant-loop-v
invariant-loop-v l = l.set ≡ take l.v-index l.nodes

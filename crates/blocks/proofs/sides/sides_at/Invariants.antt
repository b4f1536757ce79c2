use Rattle.std.proofs.Common.{◌≡◌, take}
use Rattle.std.specs.List.{filter}
use Rattle.blocks.proofs.Sweeping.{is_near, is_far}
use Rattle.blocks.proofs.sides.sides_at.Given as goal

-- the nodes so far, by whether they were reached
abbrev pub invariant-loop-v : goal.invariant-loop-v
invariant-loop-v l = (l.near.items ≡ filter (is_near l.n l.found.rank.items l.cut) (take l.v-index l.nodes)) × (l.far.items ≡ filter (is_far l.n l.found.rank.items l.cut) (take l.v-index l.nodes))

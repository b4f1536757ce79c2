use Rattle.std.proofs.Common.{◌≡◌, ◌<◌, take}
use Rattle.tomo_base.specs.Sets.{has, size, meet}
use Rattle.mmp_place.specs.Rule.{counting}
use Rattle.mmp_place.proofs.filling.how_many_count.Given as goal

-- the counting nodes of the list so far are counted, and are fewer than three
abbrev pub invariant-loop-v : goal.invariant-loop-v
invariant-loop-v l = (l.counted ≡ size l.g (meet (has (take l.v-index l.set)) (counting l.g (has l.set) (has l.m)))) × (l.counted < 3)

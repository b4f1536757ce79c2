use Rattle.tomo_base.specs.Sets.{has}
use Rattle.mmp_place.proofs.FillingLoop.{IsFilledTo}
use Rattle.mmp_place.proofs.filling.fill.Given as goal

-- the nodes of the list so far are looked at
abbrev pub invariant-loop-v : goal.invariant-loop-v
invariant-loop-v l = IsFilledTo l.g l.set (has l.initial.m) l.v-index (has l.m) l.counted

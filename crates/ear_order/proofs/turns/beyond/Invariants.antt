use Rattle.std.proofs.Common.{◌≡◌, length, take}
use Rattle.tomo_base.specs.Sets.{has}
use Rattle.tomo_base.specs.Search.{mark_of}
use Rattle.ear_order.specs.Turns.{IsBeyond}
use Rattle.ear_order.proofs.turns.beyond.Given as goal

abbrev pub invariant-loop-v : goal.invariant-loop-v
invariant-loop-v l = (length l.others.items ≡ l.g.nodes) × IsBeyond l.g (mark_of l.rest) (has (take l.v-index l.v-items)) (mark_of l.others.items)

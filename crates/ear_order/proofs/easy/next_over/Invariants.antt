use Rattle.std.proofs.Common.{IfSome}
use Rattle.tomo_base.specs.Search.{mark_of}
use Rattle.ear_order.specs.Easy.{GoesOnTo}
use Rattle.ear_order.proofs.easy.next_over.Given as goal

abbrev pub invariant-loop-hop : goal.invariant-loop-hop
invariant-loop-hop l = IfSome l.any (GoesOnTo l.g (mark_of l.gone) l.u l.end)

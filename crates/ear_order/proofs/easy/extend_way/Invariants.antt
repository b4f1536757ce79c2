use Rattle.std.proofs.Common.{◌≡◌, length}
use Rattle.tomo_base.specs.Search.{mark_of}
use Rattle.ear_order.specs.Easy.{IsOpenEar}
use Rattle.ear_order.proofs.easy.extend_way.Given as goal

abbrev pub invariant-loop-i : goal.invariant-loop-i
invariant-loop-i l = (length l.gone.items ≡ l.g.nodes) × IsOpenEar l.g (mark_of l.old) (mark_of l.gone.items) l.u l.way.items

use Rattle.std.proofs.Common.{◌≡◌, length}
use Rattle.tomo_base.specs.Search.{mark_of}
use Rattle.ear_order.proofs.Turning.{Clearing}
use Rattle.ear_order.proofs.turns.clear_near.Given as goal

abbrev pub invariant-loop-hop : goal.invariant-loop-hop
invariant-loop-hop l = (length l.marks.items ≡ l.g.nodes) × Clearing l.v (mark_of l.fn.marks.items) l.hop-items l.hop-index (mark_of l.marks.items)

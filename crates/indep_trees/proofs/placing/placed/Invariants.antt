use Rattle.std.proofs.Common.{◌≡◌, ◌+◌, length, take}
use Rattle.tomo_base.specs.Search.{entry_at}
use Rattle.ear_order.specs.Ears.{ends_of}
use Rattle.ear_order.proofs.Ordering.{after}
use Rattle.indep_trees.specs.Placing.{Numbered}
use Rattle.indep_trees.proofs.placing.placed.Given as goal

-- the nodes of the ears so far are placed
abbrev pub invariant-loop-i : goal.invariant-loop-i
invariant-loop-i l = (length l.low.items ≡ l.n) × (length l.high.items ≡ l.n) × (length l.numbers.items ≡ l.n)
    × Numbered l.ears.graph l.r l.t l.ears.u (after (ends_of l.r l.t) (take l.i l.ears.list)) l.order.items (entry_at l.low.items) (entry_at l.high.items) (entry_at l.numbers.items) (l.i + 1)

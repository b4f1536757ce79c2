use Rattle.std.proofs.Common.{◌-◌, ◌≤◌, length}
use Rattle.tomo_base.specs.Search.{IsSearch}
use Rattle.tomo_base.proofs.search.sweep.Given as goal

abbrev pub invariant-loop-head : goal.invariant-loop-head
invariant-loop-head l = IsSearch l.g l.free l.seeds l.head l.found.order.items l.found.parent.items l.found.rank.items × (l.head ≤ length l.found.order.items)

abbrev pub decreases-loop-head : goal.decreases-loop-head
decreases-loop-head l = l.g.nodes - l.head

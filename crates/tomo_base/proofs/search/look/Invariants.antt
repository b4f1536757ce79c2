use Rattle.std.proofs.Common.{◌≡◌, ◌<◌, ◌≤◌, ℕ, length}
use Rattle.tomo_base.specs.Search.{entry_at}
use Rattle.tomo_base.proofs.search.look.Given as goal
use Rattle.tomo_base.proofs.Looking.{Looking, state_of}

-- the hops so far were looked at, and the order has grown at its end
abbrev pub invariant-loop-hop : goal.invariant-loop-hop
invariant-loop-hop l = record {
  looking : Looking l.g l.free l.head (state_of l.fn.found) l.hop-items l.hop-index l.node (state_of l.found);
  longer : length l.fn.found.order.items ≤ length l.found.order.items;
  kept : (k : ℕ) → k < length l.fn.found.order.items → entry_at l.found.order.items k ≡ entry_at l.fn.found.order.items k;
}

use Rattle.std.proofs.Common.{◌≡◌, ◌<◌, ℕ, Bool, false, length, All}
use Rattle.tomo_base.specs.Search.{mark_of, entry_at}
use Rattle.gate_search.specs.Trees.{IsRanked}
use Rattle.gate_search.specs.Advancing.{IsGrown, HasTwoGates}
use Rattle.gate_search.proofs.Holding.{IsOnWay}
use Rattle.gate_search.proofs.advancing.hold_way.Given as goal

abbrev pub invariant-loop-v : goal.invariant-loop-v
invariant-loop-v l = record {
  size : length l.free.items ≡ l.g.nodes;
  starts : All (λ u. u < l.g.nodes) l.starts.items;
  ranked : IsRanked l.search.found l.v;
  passed : (u : ℕ) → mark_of l.fn.free.items u ≡ false → mark_of l.free.items u ≡ false;
  way : (base : ℕ → Bool) (root : ℕ) (w : ℕ → Bool) → (way : HasTwoGates l.g w l.fn.free.items l.search l.y) → IsGrown l.g base root w (mark_of l.fn.free.items) → IsOnWay l.g base root w l.fn.free.items l.search way.first l.free.items l.v;
}

abbrev pub decreases-loop-v : goal.decreases-loop-v
decreases-loop-v l = entry_at l.search.found.rank.items l.v

use Rattle.std.proofs.Common.{◌≡◌, ◌≢◌, ℕ, ◌<◌, get_or, true, false}
use Rattle.tomo_base.specs.declared.graph.Hop.{Hop}
use Rattle.tomo_base.specs.Search.{mark_of, entry_at}
use Rattle.ear_order.proofs.sparing.has_lower.Given as goal

-- no neighbour so far is one
abbrev pub invariant-loop-hop : goal.invariant-loop-hop
invariant-loop-hop l = (k : ℕ) (d : Hop) → k < l.hop-index → mark_of l.gone (get_or l.hop-items k d).node ≡ false → entry_at l.rank (get_or l.hop-items k d).node < l.below
    → (get_or l.hop-items k d).node ≢ l.w → false ≡ true

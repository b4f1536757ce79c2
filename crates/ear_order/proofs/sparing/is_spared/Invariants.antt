use Rattle.std.proofs.Common.{◌≡◌, ℕ, ◌<◌, get_or, false}
use Rattle.tomo_base.specs.declared.graph.Hop.{Hop}
use Rattle.tomo_base.specs.Search.{mark_of, entry_at}
use Rattle.ear_order.specs.Easy.{HasLower}
use Rattle.ear_order.proofs.sparing.is_spared.Given as goal

-- each neighbour so far has one
abbrev pub invariant-loop-hop : goal.invariant-loop-hop
invariant-loop-hop l = (k : ℕ) (d : Hop) → k < l.hop-index → mark_of l.gone (get_or l.hop-items k d).node ≡ false → entry_at l.rank l.v < entry_at l.rank (get_or l.hop-items k d).node
    → HasLower l.g (mark_of l.gone) (entry_at l.rank) (get_or l.hop-items k d).node (entry_at l.rank (get_or l.hop-items k d).node) l.v

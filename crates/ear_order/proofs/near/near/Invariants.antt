use Rattle.std.proofs.Common.{◌≡◌, ℕ, ◌<◌, get_or, true}
use Rattle.tomo_base.specs.declared.graph.Hop.{Hop}
use Rattle.tomo_base.specs.Search.{mark_of}
use Rattle.ear_order.proofs.near.near.Given as goal

-- no neighbour so far is one
abbrev pub invariant-loop-hop : goal.invariant-loop-hop
invariant-loop-hop l = (k : ℕ) (d : Hop) → k < l.hop-index → mark_of l.marks (get_or l.hop-items k d).node ≡ true → (get_or l.hop-items k d).node ≡ l.other

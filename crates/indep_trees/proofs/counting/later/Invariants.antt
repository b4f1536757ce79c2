use Rattle.std.proofs.Common.{ℕ, ◌<◌, get_or}
use Rattle.tomo_base.specs.declared.graph.Hop.{Hop}
use Rattle.tomo_base.specs.Search.{entry_at}
use Rattle.indep_trees.proofs.counting.later.Given as goal

-- no neighbour so far is on a later ear
abbrev pub invariant-loop-hop : goal.invariant-loop-hop
invariant-loop-hop l = (k : ℕ) (d : Hop) → k < l.hop-index → l.mine < entry_at l.ears (get_or l.hop-items k d).node → ⊥

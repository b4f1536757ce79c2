use Rattle.std.proofs.Common.{◌≡◌, ◌⊎◌}
use Rattle.tomo_base.specs.Search.{entry_at}
use Rattle.indep_trees.specs.Shortening.{IsLow}
use Rattle.indep_trees.proofs.shortening.nearest.Given as goal

-- the best so far is the old one or a neighbour below
abbrev pub invariant-loop-hop : goal.invariant-loop-hop
invariant-loop-hop l = (l.best ≡ l.old) ⊎ IsLow l.g (entry_at l.numbers) (entry_at l.ears) l.v l.best

use Rattle.std.proofs.Common.{◌+◌}
use Rattle.tomo_base.specs.Search.{entry_at}
use Rattle.indep_trees.specs.Placing.{AreGiven}
use Rattle.indep_trees.proofs.placing.put.Given as goal

-- the nodes so far have theirs
abbrev pub invariant-loop-i : goal.invariant-loop-i
invariant-loop-i l = AreGiven l.ear (λ k. entry_at l.ear k) l.fn.low.items l.i l.low.items × AreGiven l.ear (λ k. entry_at l.ear (k + 2)) l.fn.high.items l.i l.high.items

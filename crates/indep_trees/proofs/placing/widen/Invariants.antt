use Rattle.std.proofs.Common.{◌≡◌, ◌+◌, ◌++◌, take, drop}
use Rattle.indep_trees.proofs.placing.widen.Given as goal

-- the nodes so far stand behind the place
abbrev pub invariant-loop-i : goal.invariant-loop-i
invariant-loop-i l = l.order.items ≡ (take (l.faced.place + 1) l.fn.order.items ++ take l.i (drop 1 l.faced.ear.items)) ++ drop (l.faced.place + 1) l.fn.order.items

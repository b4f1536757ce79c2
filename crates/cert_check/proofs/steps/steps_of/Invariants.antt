use Rattle.std.proofs.Common.{take}
use Rattle.cert_check.specs.Counting.{AreSteps}
use Rattle.cert_check.proofs.steps.steps_of.Given as goal

-- the steps so far are the links between the nodes so far
abbrev pub invariant-loop-i : goal.invariant-loop-i
invariant-loop-i l = AreSteps l.g.links (take l.i l.path) l.steps.items

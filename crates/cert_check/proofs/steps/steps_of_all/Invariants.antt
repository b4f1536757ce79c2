use Rattle.std.proofs.Common.{take}
use Rattle.cert_check.specs.Counting.{AreStepsOfAll}
use Rattle.cert_check.proofs.steps.steps_of_all.Given as goal

-- the steps of the paths so far
abbrev pub invariant-loop-i : goal.invariant-loop-i
invariant-loop-i l = AreStepsOfAll l.g.links (take l.i l.paths) l.all.items

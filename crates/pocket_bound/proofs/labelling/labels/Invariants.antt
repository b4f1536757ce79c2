use Rattle.std.proofs.Common.{take}
use Rattle.tomo_base.specs.Sets.{has, minus}
use Rattle.pocket_bound.specs.HomeLabels.{AreHomeLabels}
use Rattle.pocket_bound.proofs.labelling.labels.Given as goal

-- the homes of the monitors so far are gathered
abbrev pub invariant-loop-i : goal.invariant-loop-i
invariant-loop-i l = AreHomeLabels l.g (has l.m) (minus (has (take l.i l.x-items)) (has l.must)) l.i l.labels.items

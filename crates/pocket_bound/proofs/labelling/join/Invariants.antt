use Rattle.tomo_base.specs.Sets.{has}
use Rattle.pocket_bound.proofs.Joining.{AreJoinedTo}
use Rattle.pocket_bound.proofs.labelling.join.Given as goal

-- the nodes before v have their new labels
abbrev pub invariant-loop-v : goal.invariant-loop-v
invariant-loop-v l = AreJoinedTo l.initial.labels (has l.home) l.label l.v l.labels

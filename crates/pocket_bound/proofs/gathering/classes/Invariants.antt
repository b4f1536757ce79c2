use Rattle.std.proofs.Common.{◌≡◌, ◌≤◌, All, length}
use Rattle.tomo_base.specs.Pockets.{need_of}
use Rattle.tomo_base.specs.Sets.{has}
use Rattle.pocket_bound.specs.Classes.{sets_of, AreClasses}
use Rattle.pocket_bound.proofs.gathering.classes.Given as goal

-- the classes with a node before v
abbrev pub invariant-loop-v : goal.invariant-loop-v
invariant-loop-v l = record {
  classes : AreClasses l.labels l.v (sets_of l.pockets);
  needs : All (λ k. k.need ≡ need_of l.g (has k.nodes)) l.pockets;
  few : length l.pockets ≤ l.v;
}

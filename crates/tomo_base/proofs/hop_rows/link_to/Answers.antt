use Rattle.std.proofs.Common.{arith}
use Rattle.tomo_base.proofs.Rows.{not_there, strictly}
use Rattle.tomo_base.proofs.hop_rows.link_to.Goals as goal
use Rattle.tomo_base.proofs.hop_rows.link_to.Goals.{else-place-hops-via-then-place-hops+else-hops-place, else-place-hops-via-else-place-hops}

pub returns-else-place-hops-clause-none : goal.returns-else-place-hops-clause-none
returns-else-place-hops-clause-none c = elim c.else-place-hops.branch [
  | else-place-hops-via-then-place-hops+else-hops-place w ↦
      not_there _ _ _ c.requires c.place_of-place.ensures.below
      (λ l. strictly _ _ _ _ w.if-place-hops.true w.if-hops-place.false (c.place_of-place.ensures.here w.if-place-hops.true))
  | else-place-hops-via-else-place-hops w ↦
      not_there _ _ _ c.requires c.place_of-place.ensures.below (λ l. absurd (omega arith))
]

use Rattle.std.proofs.Common.{◌≡◌, ◌&&◌, nat_lt, sym, subst}
use Rattle.tomo_base.specs.Search.{mark_of}
use Rattle.tomo_base.specs.Sets.{has}
use Rattle.tomo_base.proofs.Ranges.{below-none}
use Rattle.unit_flow.proofs.marks.marked.Goals as goal

pub loop-v-init : goal.loop-v-init
loop-v-init c = λ w. subst (λ z. has z w ≡ (nat_lt w 0 && mark_of c.args.marks.now w)) (sym c.new-set.ensures) (below-none (mark_of c.args.marks.now) w)

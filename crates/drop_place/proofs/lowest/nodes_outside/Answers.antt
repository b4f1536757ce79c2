use Rattle.std.proofs.Common.{arith}
use Rattle.std.proofs.lemmas.Bool.Decides.{nat_tests}
use Rattle.tomo_base.specs.Sets.{has}
use Rattle.drop_place.proofs.lowest.nodes_outside.Goals as goal

pub loop-v-init : goal.loop-v-init
unfolding has
loop-v-init c = λ w. rw c.new-kept.ensures (grind (arith, nat_tests))

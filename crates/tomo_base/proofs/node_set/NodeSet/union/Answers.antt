use Rattle.std.proofs.Common.{refl}
use Rattle.tomo_base.specs.Sets.{has}
use Rattle.tomo_base.proofs.Ascending.{has-none, has-more}
use Rattle.tomo_base.proofs.node_set.NodeSet.union.Goals as goal

pub loop-v-init : goal.loop-v-init
loop-v-init c = λ w. rw c.in_ok-all.ensures (has-none c.args.self.now w)

pub loop-v-preserved : goal.loop-v-preserved
loop-v-preserved c = λ w. rw (c.in_ok-insert.ensures.nodes w) (has-more (has c.loop-v.all) (has c.args.self.now) c.as_slice-v-items.result.now c.loop-v.v-index 0 _ w c.loop-v-test.true refl (c.loop-v.invariant w))

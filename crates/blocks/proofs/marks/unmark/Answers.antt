use Rattle.std.proofs.Common.{◌∙◌, refl, arith, length-set}
use Rattle.blocks.proofs.Filtering.{marks_all, marks_fewer}
use Rattle.blocks.proofs.marks.unmark.Goals as goal

pub loop-v-init : goal.loop-v-init
loop-v-init c = (refl, marks_all _)

pub loop-v-preserved : goal.loop-v-preserved
loop-v-preserved c =
    (length-set _ _ _ ∙ c.loop-v.invariant.0, λ w. marks_fewer c.args.nodes.now c.args.marks.now.items c.loop-v.marks.items c.loop-v.v-index 0 _ w c.loop-v-test.true refl (omega (arith, c.loop-v.invariant.0, c.requires _ 0 c.loop-v-test.true)) (c.loop-v.invariant.1 w))

use Rattle.std.proofs.Common.{◌∙◌, refl, ap, arith, length-set}
use Rattle.std.proofs.lemmas.List.{take_all}
use Rattle.tomo_base.specs.Sets.{has, minus}
use Rattle.split_tree.proofs.Marking.{minus_none, marks_less}
use Rattle.split_tree.proofs.marks.marks_without.Goals as goal

pub loop-v-init : goal.loop-v-init
loop-v-init c = (c.in_ok-marks.ensures.length, λ w. c.in_ok-marks.ensures.marks w ∙ minus_none (has c.args.nodes.now) w)

pub loop-v-preserved : goal.loop-v-preserved
loop-v-preserved c = (
  length-set _ _ _ ∙ c.loop-v.invariant.0,
  λ w. marks_less (has c.args.nodes.now) c.args.out.now c.loop-v.marks.items c.loop-v.v-index 0 _ w c.loop-v-test.true refl
      (omega (arith, c.loop-v.invariant.0, c.requires.out _ 0 c.loop-v-test.true)) (c.loop-v.invariant.1 w),
)

pub returns-clause-marks : goal.returns-clause-marks
returns-clause-marks c = λ w. c.loop-v.invariant.1 w ∙ ap (λ xs. minus (has c.args.nodes.now) (has xs) w) (take_all _ _ c.loop-v-test.false)

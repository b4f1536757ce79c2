use Rattle.std.proofs.Common.{◌<◌, true, length, slice_index_or, refl, ◌∙◌, arith, length-set, ap, ◌||◌, take_all}
use Rattle.tomo_base.specs.Search.{mark_of}
use Rattle.tomo_base.specs.Sets.{has}
use Rattle.unit_flow.proofs.Marking.{marks_none, marks_more}
use Rattle.unit_flow.proofs.marks.mark.Goals as goal

pub loop-v-init : goal.loop-v-init
loop-v-init c = (refl, λ w. marks_none c.args.marks.now w)

pub loop-v-preserved : goal.loop-v-preserved
loop-v-preserved c =
    let xs = c.args.nodes.now in
    let i = c.loop-v.v-index in
    let marks = c.loop-v.marks in
    let room : slice_index_or xs i 0 < length marks = omega (arith, c.requires i 0 c.loop-v-test.true, c.loop-v.invariant.0) in
    (length-set marks (slice_index_or xs i 0) true ∙ c.loop-v.invariant.0, λ w. marks_more marks c.args.marks.now xs i 0 (slice_index_or xs i 0) w c.loop-v-test.true refl room (c.loop-v.invariant.1 w))

pub returns-clause-marks : goal.returns-clause-marks
returns-clause-marks c = λ v. c.loop-v.invariant.1 v ∙ ap (λ xs. mark_of c.args.marks.now v || has xs v) (take_all c.loop-v.v-index c.args.nodes.now c.loop-v-test.false)

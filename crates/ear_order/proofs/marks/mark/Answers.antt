use Rattle.std.proofs.Common.{◌<◌, length, slice_index_or, cond, refl, ap, ◌∙◌, arith, length-set, take_all}
use Rattle.tomo_base.specs.Search.{mark_of}
use Rattle.tomo_base.specs.Sets.{has}
use Rattle.ear_order.proofs.Marking.{mark_more}
use Rattle.ear_order.proofs.marks.mark.Goals as goal

pub loop-v-init : goal.loop-v-init
unfolding has
loop-v-init c = (refl, λ w. refl)

pub loop-v-preserved : goal.loop-v-preserved
loop-v-preserved c =
    let xs = c.args.nodes.now in
    let i = c.loop-v.v-index in
    let marks = c.loop-v.marks.items in
    let v = slice_index_or xs i 0 in
    let room : v < length marks = omega (arith, c.requires i 0 c.loop-v-test.true, c.loop-v.invariant.0) in
    (length-set marks v c.args.value ∙ c.loop-v.invariant.0, λ w. mark_more marks c.args.marks.now.items xs i 0 v w c.args.value c.loop-v-test.true refl room (c.loop-v.invariant.1 w))

pub returns-clause-marks : goal.returns-clause-marks
returns-clause-marks c = λ v. c.loop-v.invariant.1 v ∙ ap (λ xs. cond (has xs v) c.args.value (mark_of c.args.marks.now.items v)) (take_all c.loop-v.v-index c.args.nodes.now c.loop-v-test.false)

use Rattle.std.proofs.Common.{◌∙◌, length, false, refl, ap, arith, length-set}
use Rattle.std.proofs.lemmas.List.{length-replicate, take_all}
use Rattle.tomo_base.specs.Search.{mark_of}
use Rattle.tomo_base.specs.Sets.{has}
use Rattle.tomo_base.proofs.Marks.{marks_more, no_marks}
use Rattle.tomo_base.proofs.node_marks.marks_of.Goals as goal

pub loop-v-init : goal.loop-v-init
loop-v-init c =
    let bare = c.in_ok-marks.ensures.items_if_clones_equal (λ y h. h) in
    (ap length bare ∙ length-replicate c.args.n false, λ w. ap (λ xs. mark_of xs w) bare ∙ no_marks c.args.n w)

pub loop-v-preserved : goal.loop-v-preserved
loop-v-preserved c =
    (length-set _ _ _ ∙ c.loop-v.invariant.0, λ w. marks_more c.args.n c.args.nodes.now c.loop-v.marks.items c.loop-v.v-index 0 _ w c.loop-v-test.true refl (omega (arith, c.loop-v.invariant.0, c.requires _ 0 c.loop-v-test.true)) (c.loop-v.invariant.1 w))

pub returns-clause-marks : goal.returns-clause-marks
returns-clause-marks c = λ w. c.loop-v.invariant.1 w ∙ ap (λ xs. has xs w) (take_all _ _ c.loop-v-test.false)

use Rattle.std.proofs.Common.{◌∙◌, ap, refl}
use Rattle.std.proofs.lemmas.List.{take_all}
use Rattle.tomo_base.specs.Sets.{has}
use Rattle.tomo_base.proofs.Ascending.{same_list}
use Rattle.blocks.proofs.Filtering.{has-next}
use Rattle.blocks.proofs.node_lists.set_of.Goals as goal

pub loop-v-preserved : goal.loop-v-preserved
loop-v-preserved c = (c.in_ok-insert.ensures.ascending, λ w. c.in_ok-insert.ensures.nodes w ∙ has-next c.args.nodes.now c.loop-v.v-index 0 _ w (has c.loop-v.set) c.loop-v-test.true refl (c.loop-v.invariant.1 w))

pub returns : goal.returns
returns c = same_list c.loop-v.set c.args.nodes.now c.loop-v.invariant.0 c.requires.ascending (λ w. c.loop-v.invariant.1 w ∙ ap (λ xs. has xs w) (take_all _ _ c.loop-v-test.false))

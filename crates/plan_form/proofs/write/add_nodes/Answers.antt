use Rattle.std.proofs.Common.{[], ◌∷◌}
use Rattle.std.specs.Fmt.{decimal}
use Rattle.plan_form.proofs.Numbering.{added_none, added_more}
use Rattle.plan_form.proofs.write.add_nodes.Goals as goal

pub loop-v-init : goal.loop-v-init
loop-v-init c = added_none (λ _ v. c.args.word.now ∷ decimal v ∷ []) c.args.nodes.now c.args.rows.now c.requires.0

pub loop-v-preserved : goal.loop-v-preserved
loop-v-preserved c = added_more (λ _ v. c.args.word.now ∷ decimal v ∷ []) c.args.nodes.now c.args.rows.now c.loop-v.rows c.add_row.new.rows c.loop-v.v-index 0 c.loop-v-test.true c.loop-v.invariant
    (rw (c.as_bytes.ensures.value, c.as_bytes-in-loop-v.ensures.value, c.format.ensures.text) at c.in_ok-add_row.ensures.rows)

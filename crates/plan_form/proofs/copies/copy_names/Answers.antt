use Rattle.std.proofs.Common.{[], ◌∷◌, ◌++◌, sym, ap, ◌∙◌}
use Rattle.plan_form.proofs.Copying.{take_read}
use Rattle.plan_form.proofs.copies.copy_names.Goals as goal

pub loop-v-preserved : goal.loop-v-preserved
loop-v-preserved c = c.in_ok-push.ensures.ok ∙ (ap (λ xs. xs ++ c.name.result.now ∷ []) c.loop-v.invariant ∙ sym (take_read c.args.t.now.names c.loop-v.v c.name.result.now c.name.ensures.name))

use Rattle.std.proofs.Common.{All}
use Rattle.std.proofs.lemmas.List.Elements.{All-push}
use Rattle.plan_form.specs.declared.plan.HeldPocket.{HeldPocket}
use Rattle.plan_form.specs.Buildable.{as_part}
use Rattle.plan_form.specs.Held.{part_of}
use Rattle.plan_form.specs.Parts.{IsSmall}
use Rattle.plan_form.proofs.Copying.{copied_more}
use Rattle.plan_form.proofs.copies.copy_pockets.Goals as goal

pub loop-i-preserved : goal.loop-i-preserved
loop-i-preserved c = rw c.in_ok-push.ensures.items (
  copied_more part_of as_part c.loop-i.held.items c.args.pockets.now c.loop-i.i c.in_ok-hold.field-0 c.at-pocket.result.now c.at-pocket.ensures c.in_ok-hold.ensures.part c.loop-i.invariant.0,
  All-push (λ (k : HeldPocket). IsSmall k.need × All IsSmall k.nodes.items) c.loop-i.held.items c.in_ok-hold.field-0 c.loop-i.invariant.1 c.in_ok-hold.ensures.small,
)

use Rattle.std.proofs.Common.{◌≡◌, take, map, All}
use Rattle.plan_form.specs.declared.plan.HeldPocket.{HeldPocket}
use Rattle.plan_form.specs.Buildable.{as_part}
use Rattle.plan_form.specs.Held.{part_of}
use Rattle.plan_form.specs.Parts.{IsSmall}
use Rattle.plan_form.proofs.copies.copy_pockets.Given as goal

abbrev pub invariant-loop-i : goal.invariant-loop-i
invariant-loop-i l = (map part_of l.held.items ≡ map as_part (take l.i l.pockets)) × All (λ (k : HeldPocket). IsSmall k.need × All IsSmall k.nodes.items) l.held.items

-- Pockets as a plan keeps them, and as contracts see them.
use Rattle.plan_form.specs.Parts.{PlanPocket}
use Rattle.plan_form.specs.declared.plan.HeldPocket.{HeldPocket}

-- the part that contracts see
abbrev pub part_of : HeldPocket → PlanPocket
part_of k = record { need = k.need; nodes = k.nodes.items }

use Rattle.std.proofs.Common.{arith, sym, ◌∙◌}
use Rattle.topology.proofs.Choices.{fault_width, fault_word, fault_unknown}
use Rattle.topology.proofs.choice.wish_at.Goals as goal

pub returns-then-width-lt2-clause-fault : goal.returns-then-width-lt2-clause-fault
returns-then-width-lt2-clause-fault c = fault_width _ _ _ (omega (arith, c.width.ensures.width, c.if-width-lt2.true))

pub returns-in_default-clause-fault : goal.returns-in_default-clause-fault
returns-in_default-clause-fault c = fault_word _ _ _ (omega (arith, c.width.ensures.width, c.if-width-lt2.false)) (rw c.at.ensures at (sym c.wish_in.ensures ∙ c.in_default.is))

pub returns-in-None-clause-fault : goal.returns-in-None-clause-fault
returns-in-None-clause-fault c = fault_unknown _ _ _ c.in-Some.wish (omega (arith, c.width.ensures.width, c.if-width-lt2.false))
    (rw c.at.ensures at (sym c.wish_in.ensures ∙ c.in-Some.is)) (rw c.at-2.ensures at c.in-None.ensures.none)

use Rattle.std.proofs.Common.{arith, sym, ◌∙◌}
use Rattle.topology.proofs.RowFaults.{fault_width, fault_first, fault_second, fault_loop}
use Rattle.topology.proofs.draft.linked_names.Goals as goal

pub returns-then-width-lt2-clause-fault : goal.returns-then-width-lt2-clause-fault
returns-then-width-lt2-clause-fault c = λ before. fault_width before _ _ (omega (arith, c.width.ensures.width, c.if-width-lt2.true))

pub returns-in_default-clause-fault : goal.returns-in_default-clause-fault
returns-in_default-clause-fault c = λ before. fault_first before _ _ (omega (arith, c.width.ensures.width, c.if-width-lt2.false)) (rw c.at.ensures at c.in_default.ensures.none)

pub returns-in_default-name_in-clause-fault : goal.returns-in_default-name_in-clause-fault
returns-in_default-name_in-clause-fault c = λ before. fault_second before _ _ (omega (arith, c.width.ensures.width, c.if-width-lt2.false)) (rw c.at-2.ensures at c.in_default-name_in.ensures.none)

pub returns-then-eq-clause-fault : goal.returns-then-eq-clause-fault
returns-then-eq-clause-fault c = λ before.
    let first = rw c.at.ensures at c.in-Some.ensures.name in
    let second = rw c.at-2.ensures at c.in-Some-name_in.ensures.name in
    fault_loop before _ _ (omega (arith, c.width.ensures.width, c.if-width-lt2.false)) (rw first.0 at first.1) (rw second.0 at second.1) (rw (first.0, second.0) at (sym c.eq.ensures ∙ c.if-eq.true))

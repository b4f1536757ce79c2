use Rattle.std.proofs.Common.{◌<◌, length, sym, ◌∙◌, inl, inr, arith}
use Rattle.std.proofs.lemmas.Bool.{eqb-true, eqb-false}
use Rattle.plan_form.proofs.Digits.{spelled, tells}
use Rattle.plan_form.proofs.numerals.number.Goals as goal
use Rattle.plan_form.proofs.numerals.number.Goals.{then-is_empty-via-then-is_empty, then-is_empty-via-else-is_empty+then-text-gt1}

pub returns-then-is_empty : goal.returns-then-is_empty
returns-then-is_empty c = λ n small e.
    let at = spelled n small c.args.text.now e in
    elim c.then-is_empty.branch [
      | then-is_empty-via-then-is_empty w ↦ omega (arith, at.2, eqb-true (length c.args.text.now) 0 (sym c.is_empty.ensures ∙ w.if-is_empty.true))
      | then-is_empty-via-else-is_empty+then-text-gt1 w ↦ omega (arith, at.3 w.if-text-gt1.true.0, w.if-text-gt1.true.1)
    ]

pub returns : goal.returns
returns c =
    let text = c.args.text.now in
    let some : 0 < length text = omega (arith, eqb-false (length text) 0 (sym c.if-is_empty.ensures)) in
    tells text some (λ lead. elim c.if-text-gt1.either [ inl both ↦ omega (arith, some, both) | inr other ↦ absurd (other lead) ]) c.value_of.result c.value_of.ensures.some c.value_of.ensures.none

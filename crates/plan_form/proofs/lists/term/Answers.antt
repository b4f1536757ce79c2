use Rattle.std.proofs.Common.{◌≡◌, sym, subst, Some, to_z, of_z, w8}
use Rattle.std.proofs.lemmas.Int.{to_z-of_z}
use Rattle.std.specs.Fmt.{signed_decimal}
use Rattle.plan_form.specs.Parts.{IsCoefficient}
use Rattle.plan_form.specs.Spelling.{colon}
use Rattle.plan_form.specs.Values.{Spells}
use Rattle.plan_form.proofs.Cutting.{first_part}
use Rattle.plan_form.proofs.Texts.{coefficient_fits, coefficient_spelled, no_coefficient, no_colon, no_path, term_spelled}
use Rattle.plan_form.proofs.lists.term.Goals as goal

pub returns-in_err-coef : goal.returns-in_err-coef
returns-in_err-coef c =
    let first = first_part colon c.args.text.now c.cut.result.0.now c.cut.result.1 c.cut.ensures.last c.cut.ensures.more in
    rw c.from_residual.ensures
    (no_coefficient c.args.text.now c.cut.result.0.now first.0 first.1 (subst (Spells IsCoefficient signed_decimal c.cut.result.0.now) (sym c.in_err-coef.ensures) (coefficient_spelled c.cut.result.0.now)))

pub returns-in_err-rest : goal.returns-in_err-rest
returns-in_err-rest c = rw c.from_residual-in_err-rest.ensures (no_colon c.args.text.now c.cut.result.0.now (rw c.in_err-rest.was at c.cut.ensures.last))

pub returns-in_err-path : goal.returns-in_err-path
returns-in_err-path c = rw c.from_residual-in_err-path.ensures (no_path c.args.text.now c.cut.result.0.now c.in_ok-rest.field-0.now (rw c.in_ok-rest.was at c.cut.ensures.more) c.in_err-path.ensures)

pub returns : goal.returns
returns c =
    let coef : Spells IsCoefficient signed_decimal c.cut.result.0.now (Some c.in_ok-coef.coef) =
    subst (Spells IsCoefficient signed_decimal c.cut.result.0.now) (sym c.in_ok-coef.ensures) (coefficient_spelled c.cut.result.0.now) in
    let same : to_z w8 (of_z w8 c.in_ok-coef.coef) ≡ c.in_ok-coef.coef = to_z-of_z w8 c.in_ok-coef.coef (coefficient_fits c.in_ok-coef.coef coef.0) in
    rw same
    (term_spelled c.args.text.now c.cut.result.0.now c.in_ok-rest.field-0.now (record { coef = c.in_ok-coef.coef; path = c.in_ok-path.path })
    (rw c.in_ok-rest.was at c.cut.ensures.more) coef c.in_ok-path.ensures)

use Rattle.std.proofs.Common.{Some, refl}
use Rattle.topology.specs.Names.{row_at}
use Rattle.plan_form.specs.declared.kinds.Kind.TheVariants as kinds
use Rattle.plan_form.specs.Kinds.{field}
use Rattle.plan_form.specs.Parts.{IsTermList}
use Rattle.plan_form.specs.Spelling.{terms_text}
use Rattle.plan_form.specs.Values.{Spells}
use Rattle.plan_form.proofs.KindRows.{recipe_tells, number_refused}
use Rattle.plan_form.proofs.Spelled.{refused}
use Rattle.plan_form.proofs.adding.add_recipe.Goals as goal

pub returns-in_err-check_number-clause-refuses : goal.returns-in_err-check_number-clause-refuses
returns-in_err-check_number-clause-refuses c =
    let row = row_at c.args.rows.now.closed c.args.row in
    let spelled : Spells IsTermList terms_text (field row 2) (Some c.read_terms.new.recipe) = rw (c.if-not-branch.false, c.at.ensures) at c.in_ok-read_terms.ensures in
    refused kinds.Recipe _ _ row c.from_residual-in_err-check_number.result c.in_err-check_number.field-0.0 c.from_residual-in_err-check_number.ensures.1
    (number_refused kinds.Recipe row _ _ _ c.in_err-check_number.field-0.0 refl (recipe_tells row c.read_terms.new.recipe c.requires.at.begins c.requires.at.record_is spelled) (rw c.len.ensures at c.in_err-check_number.ensures.fault))

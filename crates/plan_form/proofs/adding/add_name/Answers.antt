use Rattle.std.proofs.Common.{refl}
use Rattle.topology.specs.Names.{row_at}
use Rattle.plan_form.specs.declared.kinds.Kind.TheVariants as kinds
use Rattle.plan_form.proofs.KindRows.{name_tells, number_refused}
use Rattle.plan_form.proofs.Spelled.{refused}
use Rattle.plan_form.proofs.adding.add_name.Goals as goal

pub returns-in_err-check_number-clause-refuses : goal.returns-in_err-check_number-clause-refuses
returns-in_err-check_number-clause-refuses c =
    let row = row_at c.args.rows.now.closed c.args.row in
    refused kinds.Node _ _ row c.from_residual.result c.in_err-check_number.field-0.0 c.from_residual.ensures.1
    (number_refused kinds.Node row _ _ _ c.in_err-check_number.field-0.0 refl (name_tells row c.requires.at.begins c.requires.at.record_is) (rw c.len.ensures.len at c.in_err-check_number.ensures.fault))

use Rattle.std.proofs.Common.{◌≡◌, length, refl, rules}
use Rattle.topology.specs.Names.{row_at}
use Rattle.plan_form.specs.declared.kinds.Kind.TheVariants as kinds
use Rattle.plan_form.proofs.KindRows.{link_tells, number_refused}
use Rattle.plan_form.proofs.Spelled.{refused}
use Rattle.plan_form.proofs.adding.add_link.Goals as goal

pub returns-in_err-check_number-clause-refuses : goal.returns-in_err-check_number-clause-refuses
returns-in_err-check_number-clause-refuses c =
    let row = row_at c.args.rows.now.closed c.args.row in
    let tells = link_tells row (record { a = c.in_ok-a.a; b = c.in_ok-b.b }) c.requires.at.begins c.requires.at.record_is c.in_ok-a.ensures.number c.in_ok-b.ensures.number in
    let same : c.len.result ≡ length c.args.links.now.items = search rules in
    refused kinds.Link _ _ row c.from_residual-in_err-check_number.result c.in_err-check_number.field-0.0 c.from_residual-in_err-check_number.ensures.1
    (number_refused kinds.Link row _ _ _ c.in_err-check_number.field-0.0 refl tells (rw same at c.in_err-check_number.ensures.fault))

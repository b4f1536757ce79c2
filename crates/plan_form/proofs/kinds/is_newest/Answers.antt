use Rattle.std.proofs.Common.{◌∙◌, ap, Some, sym, arith}
use Rattle.topology.specs.Names.{row_at}
use Rattle.plan_form.specs.declared.kinds.Kind.TheVariants as kinds
use Rattle.plan_form.specs.Kinds.{newest_format}
use Rattle.plan_form.proofs.Spelled.{is_wide, kind_tells}
use Rattle.plan_form.proofs.kinds.is_newest.Goals as goal

pub at-requires-clause-field : goal.at-requires-clause-field
at-requires-clause-field c =
    let row = row_at c.args.rows.now.closed c.args.row in
    omega (arith, is_wide kinds.Plan row (kind_tells newest_format row kinds.Plan (sym c.kind_of.ensures ∙ (c.in-Some-Plan.is ∙ ap (λ k. Some k) c.in-Some-Plan.field-0-is))).1)

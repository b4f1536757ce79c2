use Rattle.std.proofs.Common.{◌≡◌, ◌⊎◌, ◌&&◌, Bool, false, inl, inr, sym, ◌∙◌, ap, arith}
use Rattle.std.proofs.lemmas.Bool.{and_from, le-leb, lt-leb}
use Rattle.topology.specs.Names.{row_at}
use Rattle.plan_form.specs.Kinds.{kind_named}
use Rattle.plan_form.proofs.Records.{kind_is, no_record, no_name}
use Rattle.plan_form.proofs.kinds.kind_of.Goals as goal
use Rattle.plan_form.proofs.kinds.kind_of.Goals.{else-since-format-via-then-since-format+else-is_record, else-since-format-via-else-since-format}

pub returns-in_err-kind : goal.returns-in_err-kind
returns-in_err-kind c = c.from_residual.ensures ∙ sym (no_name c.args.format (row_at c.args.rows.now.closed c.args.row) (ap kind_named (sym c.at.ensures) ∙ (sym c.kind_named.ensures ∙ c.in_err-kind.was)))

pub returns-then-is_record : goal.returns-then-is_record
returns-then-is_record c =
    sym (kind_is c.args.format (row_at c.args.rows.now.closed c.args.row) c.in_ok-kind.kind (ap kind_named (sym c.at.ensures) ∙ (sym c.kind_named.ensures ∙ c.in_ok-kind.was))
    (and_from _ _ (le-leb _ _ (rw c.since.ensures at c.if-since-format.true)) (sym c.is_record.ensures ∙ c.if-is_record.true)))

pub returns-else-since-format : goal.returns-else-since-format
returns-else-since-format c =
    sym (no_record c.args.format (row_at c.args.rows.now.closed c.args.row) c.in_ok-kind.kind (ap kind_named (sym c.at.ensures) ∙ (sym c.kind_named.ensures ∙ c.in_ok-kind.was))
    (elim c.else-since-format.branch [
      | else-since-format-via-then-since-format+else-is_record w ↦ not_both _ _ (inr (sym w.is_record.ensures ∙ w.if-is_record.false))
      | else-since-format-via-else-since-format w ↦ not_both _ _ (inl (lt-leb _ _ (rw c.since.ensures at w.if-since-format.false)))
    ]))
  where
    not_both : (a b : Bool) → (a ≡ false) ⊎ (b ≡ false) → (a && b) ≡ false
    not_both a b (inl e) = grind arith
    not_both a b (inr e) = grind arith

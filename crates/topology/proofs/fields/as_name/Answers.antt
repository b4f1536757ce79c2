use Rattle.std.proofs.Common.{◌≡◌, ◌≢◌, length, arith, sym, ◌∙◌}
use Rattle.std.proofs.lemmas.Bool.{eqb-true, eqb-false}
use Rattle.topology.proofs.Texts.{no_empty_name, no_long_name, text_is_name, no_text_no_name}
use Rattle.topology.proofs.fields.as_name.Goals as goal
use Rattle.topology.proofs.fields.as_name.Goals.{then-is_empty-via-then-is_empty, then-is_empty-via-else-is_empty+then-bytes-gt-NAME_LIMIT}

pub returns-then-is_empty-clause-none : goal.returns-then-is_empty-clause-none
returns-then-is_empty-clause-none c = elim c.then-is_empty.branch [
  | then-is_empty-via-then-is_empty w ↦ (
      let none : length c.args.bytes.now ≡ 0 = eqb-true _ _ (sym c.is_empty.ensures ∙ w.if-is_empty.true) in
      no_empty_name c.args.bytes.now (omega (arith, none)))
  | then-is_empty-via-else-is_empty+then-bytes-gt-NAME_LIMIT w ↦ no_long_name c.args.bytes.now w.if-bytes-gt-NAME_LIMIT.true
]

pub returns-clause-name : goal.returns-clause-name
returns-clause-name c =
    let some : length c.args.bytes.now ≢ 0 = eqb-false _ _ (sym c.is_empty.ensures ∙ c.if-is_empty.false) in
    rw c.ok.ensures.value (text_is_name c.args.bytes.now _ c.from_utf8.result c.from_utf8.ensures.cases (omega (arith, some)) c.if-bytes-gt-NAME_LIMIT.false)

pub returns-clause-none : goal.returns-clause-none
returns-clause-none c = rw c.ok.ensures.value (no_text_no_name c.args.bytes.now _ c.from_utf8.result c.from_utf8.ensures.cases)

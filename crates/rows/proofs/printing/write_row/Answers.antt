use Rattle.std.proofs.Common.{◌≢◌, ◌∙◌, ◌<◌, ◌++◌, refl, arith, Some, length, [], get_or, take}
use Rattle.csv.specs.Writing.{field_text, is_blank, next_sep, row_body, text_written, writer_setup}
use Rattle.csv.specs.declared.writer.QuoteStyle.TheVariants as style
use Rattle.csv.proofs.WriteFacts.{appends-more, appends-none, blank-step, row-step}
use Rattle.rows.specs.Rows.{writer}
use Rattle.rows.proofs.printing.write_row.Goals as goal

pub loop-field-init : goal.loop-field-init
unfolding is_blank
loop-field-init c =
    let (setup, fields, clean) = c.requires.between in
    (setup, fields, appends-none (text_written (λ v. Some v.items) c.args.writer.now), rw clean refl)

pub loop-field-preserved : goal.loop-field-preserved
loop-field-preserved c =
    let (setup, fields, text, blank) = c.loop-field.invariant in
    let e = c.in-Ok.ensures in
    let row = get_or c.args.rows.now.closed c.args.row [] in
    let style-is : (writer_setup c.loop-field.writer).style ≢ style.NonNumeric = rw setup (λ z. cc z) in
    let within : c.loop-field.field < length row = omega (arith, c.loop-field-test.true, c.width-field-end.ensures.width) in
    let more = rw (setup, fields, c.at.ensures) at (e.text style-is) in
    let body = row-step writer row c.loop-field.field within in (
      e.same ∙ setup,
      e.count ∙ rw fields (omega (arith, c.loop-field-test.true, c.width-field-end.type_inv)),
      rw body (appends-more (text_written (λ v. Some v.items) c.args.writer.now) (text_written (λ v. Some v.items) c.loop-field.writer)
          (text_written (λ v. Some v.items) c.write_field.new.self) (row_body writer (take c.loop-field.field row))
          (next_sep writer c.loop-field.field ++ field_text writer (get_or row c.loop-field.field [])) text more),
      blank-step writer row c.loop-field.field _ _ within blank (λ w. rw (setup, c.at.ensures) at (e.wrote w style-is)) e.stays,
    )

use Rattle.std.proofs.Common.{sym, arith}
use Rattle.std.proofs.lemmas.List.{length-take}
use Rattle.csv.specs.Records.{fields_of}
use Rattle.rows.proofs.Fields.{field-below, take-field, take-none}
use Rattle.rows.proofs.reading.add_record.Goals as goal

pub loop-field-preserved : goal.loop-field-preserved
loop-field-preserved c =
    let (same_row, below, closed, current) = c.loop-field.invariant in
    let s = rw c.in-Some.is at c.next.ensures.steps in
    let there = rw same_row at s.1 in
    let ok = c.in_ok-field.ensures.ok in (
      rw s.0 same_row,
      rw s.2 (field-below _ _ _ there),
      rw ok closed,
      rw (ok, s.2, current) (sym (take-field _ _ _ there)),
    )

pub field-requires : goal.field-requires
field-requires c =
    let (same_row, below, closed, current) = c.loop-field.invariant in
    let s = rw c.in-Some.is at c.next.ensures.steps in
    let there = rw same_row at s.1 in
    let within = field-below _ _ _ there in
    rw current (omega (arith, within, below, c.requires.fits, length-take c.loop-field.field-iterator.at (fields_of c.args.row.now)))

pub close-requires-clause-filled : goal.close-requires-clause-filled
close-requires-clause-filled c =
    let (same_row, below, closed, current) = c.loop-field.invariant in
    let s = rw c.in-None.is at c.next.ensures.steps in
    rw (current, take-none _ _ (rw same_row at s.1)) c.requires.filled

pub returns : goal.returns
returns c =
    let (same_row, below, closed, current) = c.loop-field.invariant in
    let s = rw c.in-None.is at c.next.ensures.steps in
    let all = take-none (fields_of c.args.row.now) c.loop-field.field-iterator.at (rw same_row at s.1) in
    rw (current, closed, all) at c.close.ensures.ok

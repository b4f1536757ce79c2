use Rattle.std.proofs.Common.{get_or, []}
use Rattle.round_reader.proofs.Parts.{added_more}
use Rattle.round_reader.proofs.reading.add_row.Goals as goal

pub loop-field-preserved : goal.loop-field-preserved
loop-field-preserved c = rw c.in_ok-push.ensures.items (added_more (get_or c.args.rows.now.closed c.args.row []) c.loop-field.field c.args.sums.now.items c.loop-field.sums.items c.in-Some.sum (rw c.at.ensures at c.in-Some.ensures.some) c.loop-field.invariant)

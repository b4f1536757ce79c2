use Rattle.std.proofs.Common.{length, sym}
use Rattle.rows.proofs.Cuts.{rising-at, row-width}
use Rattle.rows.proofs.places.width_at.Goals as goal

pub overflow_sub-result : goal.overflow_sub-result
overflow_sub-result c =
    let low = (rising-at 0 c.args.row_ends.now (length c.args.ends.now) c.args.row c.requires.cut.rows c.requires.row).0 in
    rw c.start_at-start.ensures low

pub returns : goal.returns
returns c = rw c.start_at-start.ensures (sym (row-width c.args._bytes.now c.args.ends.now c.args.row_ends.now c.args.row c.requires.cut c.requires.row))

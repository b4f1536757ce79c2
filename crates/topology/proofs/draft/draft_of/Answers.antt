use Rattle.std.proofs.Common.{◌<◌, length, arith}
use Rattle.topology.proofs.Reading.{read_more}
use Rattle.topology.proofs.draft.draft_of.Goals as goal

pub loop-place-preserved : goal.loop-place-preserved
loop-place-preserved c =
    let within : c.loop-place.place < length c.args.rows.now.closed = omega (arith, c.loop-place-test.true, c.len-place-end.ensures.len) in
    read_more c.args.header c.args.rows.now.closed c.loop-place.draft.names c.add_row.new.self.names c.loop-place.draft.links c.add_row.new.self.links c.loop-place.place within c.loop-place.invariant
    (c.in_ok-add_row.ensures.takes _ c.loop-place.invariant.draft)

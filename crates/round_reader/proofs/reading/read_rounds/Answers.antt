use Rattle.std.proofs.Common.{◌<◌, length, arith}
use Rattle.std.proofs.lemmas.Result.{err_from_is_err_and}
use Rattle.round_reader.proofs.Parts.{read_more, read_all, first_fault}
use Rattle.round_reader.proofs.reading.read_rounds.Goals as goal

pub returns-in_err-add_row-clause-fault : goal.returns-in_err-add_row-clause-fault
returns-in_err-add_row-clause-fault c =
    let within : c.loop-row.row < length c.args.rows.now.closed = omega (arith, c.loop-row-test.true, c.len-row-end.ensures.len) in
    let p = err_from_is_err_and c.from_residual.result c.from_residual.ensures.1 in
    rw (p.1, p.2) (first_fault c.args.paths c.args.rows.now.closed c.loop-row.row c.loop-row.sums.items _ within c.loop-row.invariant c.in_err-add_row.ensures.fault)

pub loop-row-preserved : goal.loop-row-preserved
loop-row-preserved c =
    let added = c.in_ok-add_row.ensures.ok in
    rw added.2 (read_more c.args.paths c.args.rows.now.closed c.loop-row.row c.loop-row.sums.items added.0 added.1 c.loop-row.invariant)

pub returns-clause-rounds : goal.returns-clause-rounds
returns-clause-rounds c = read_all c.args.paths c.args.rows.now.closed c.loop-row.row c.len.result c.loop-row.sums.items (omega (arith, c.loop-row-test.false, c.loop-row.auto.row-end, c.len-row-end.ensures.len)) c.len.ensures.len c.loop-row.invariant

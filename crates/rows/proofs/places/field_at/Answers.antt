use Rattle.std.proofs.Common.{length, arith, sym}
use Rattle.rows.proofs.Cuts.{rising-at, row-field, place-below}
use Rattle.rows.proofs.places.field_at.Goals as goal

pub returns : goal.returns
returns c =
    rw (c.start_at-start.ensures, c.start_at.ensures) (sym (row-field c.args.bytes.now c.args.ends.now c.args.row_ends.now c.args.row c.args.field c.requires.cut c.requires.row c.requires.field))

pub prove-unreachable-requires : goal.prove-unreachable-requires
prove-unreachable-requires c =
    let high = (rising-at 0 c.args.row_ends.now (length c.args.ends.now) c.args.row c.requires.cut.rows c.requires.row).1 in
    omega (arith, high, c.if-prove.true)

pub prove-unreachable-requires-2 : goal.prove-unreachable-requires-2
prove-unreachable-requires-2 c =
    let below = place-below _ c.args.ends.now _ c.args.row c.args.field c.requires.cut c.requires.row c.requires.field in
    let order = (rising-at 0 c.args.ends.now (length c.args.bytes.now) _ c.requires.cut.fields below).0 in
    let wrong = rw (c.start_at-start.ensures, c.start_at.ensures) at c.if-prove-2.true in
    omega (arith, order, wrong)

pub prove-unreachable-requires-3 : goal.prove-unreachable-requires-3
prove-unreachable-requires-3 c =
    let below = place-below _ c.args.ends.now _ c.args.row c.args.field c.requires.cut c.requires.row c.requires.field in
    let high = (rising-at 0 c.args.ends.now (length c.args.bytes.now) _ c.requires.cut.fields below).1 in
    let wrong = rw (c.start_at.ensures) at c.if-prove-3.true in
    omega (arith, high, wrong)

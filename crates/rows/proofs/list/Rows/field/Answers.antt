use Rattle.rows.proofs.Cuts.{field-cut, field-view}
use Rattle.rows.proofs.Counts.{field-counted}
use Rattle.rows.proofs.list.Rows.field.Goals as goal

pub invariant_of-self-2 : goal.invariant_of-self-2
invariant_of-self-2 c =
    let (cut, counted) = c.self.invariant in
    let room = rw (← c.self.view_is) at c.requires in
    rw (c.in_ok-push.ensures.items, c.len.ensures, c.extend_from_slice.new.self.ok.0, c.in_ok-extend_from_slice.ensures.items, c.in_ok-reserve.ensures.items)
    (field-cut _ _ _ c.args.bytes.now cut, field-counted _ _ _ c.args.bytes.now cut counted room)

pub returns-clause-ok : goal.returns-clause-ok
returns-clause-ok c =
    rw (← c.self.view_is, c.in_ok-push.ensures.items, c.len.ensures, c.extend_from_slice.new.self.ok.0, c.in_ok-extend_from_slice.ensures.items, c.in_ok-reserve.ensures.items)
    (field-view _ _ _ c.args.bytes.now c.self.invariant.0)

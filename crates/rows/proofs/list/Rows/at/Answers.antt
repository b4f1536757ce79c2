use Rattle.std.proofs.Common.{arith}
use Rattle.rows.proofs.Cuts.{closed-length, row-width}
use Rattle.rows.proofs.list.Rows.at.Goals as goal

pub field_at-requires-clause-row : goal.field_at-requires-clause-row
field_at-requires-clause-row c =
    let below = rw (← c.self.view_is, closed-length c.self.inside.bytes.items c.self.inside.ends.items c.self.inside.row_ends.items) at c.requires.row in
    rw c.deref-3.ensures.value below

pub field_at-requires-clause-field : goal.field_at-requires-clause-field
field_at-requires-clause-field c =
    let below = rw (← c.self.view_is, closed-length c.self.inside.bytes.items c.self.inside.ends.items c.self.inside.row_ends.items) at c.requires.row in
    let width = row-width c.self.inside.bytes.items c.self.inside.ends.items c.self.inside.row_ends.items c.args.row c.self.invariant.0 below in
    let inside = rw (← c.self.view_is, width) at c.requires.field in
    rw c.deref-3.ensures.value (omega (arith, inside))

use Rattle.rows.proofs.Cuts.{closed-length}
use Rattle.rows.proofs.list.Rows.width.Goals as goal

pub width_at-requires-clause-row : goal.width_at-requires-clause-row
width_at-requires-clause-row c =
    let below = rw (← c.self.view_is, closed-length c.self.inside.bytes.items c.self.inside.ends.items c.self.inside.row_ends.items) at c.requires in
    rw c.deref-3.ensures.value below

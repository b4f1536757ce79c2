use Rattle.std.proofs.Common.{sym, arith}
use Rattle.rows.proofs.Cuts.{closed-length}
use Rattle.rows.proofs.Counts.{places-counted}
use Rattle.rows.proofs.list.Rows.len.Goals as goal

pub overflow_cast-result : goal.overflow_cast-result
overflow_cast-result c =
    let few = places-counted c.self.inside.bytes.items c.self.inside.ends.items c.self.inside.row_ends.items c.self.invariant.1 in
    rw (c.len.ensures, c.self.inside.row_ends.ok.0) (omega (arith, few))

pub returns-clause-len : goal.returns-clause-len
returns-clause-len c = rw (← c.self.view_is, c.len.ensures, c.self.inside.row_ends.ok.0) (sym (closed-length c.self.inside.bytes.items c.self.inside.ends.items c.self.inside.row_ends.items))

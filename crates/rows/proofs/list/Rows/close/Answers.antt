use Rattle.rows.proofs.Cuts.{close-cut, close-view}
use Rattle.rows.proofs.Counts.{close-counted}
use Rattle.rows.proofs.list.Rows.close.Goals as goal

pub invariant_of-self-2 : goal.invariant_of-self-2
invariant_of-self-2 c =
    let (cut, counted) = c.self.invariant in
    let filled = rw (← c.self.view_is) at c.requires.filled in
    let room = rw (← c.self.view_is) at c.requires.room in
    rw (c.in_ok-push.ensures.items, c.len.ensures, c.self.inside.ends.ok.0) (close-cut _ _ _ cut, close-counted _ _ _ cut counted filled room)

pub returns-clause-ok : goal.returns-clause-ok
returns-clause-ok c =
    rw (← c.self.view_is, c.in_ok-push.ensures.items, c.len.ensures, c.self.inside.ends.ok.0) (close-view _ _ _ c.self.invariant.0)

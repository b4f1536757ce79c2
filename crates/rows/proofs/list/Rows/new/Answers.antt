use Rattle.rows.proofs.Cuts.{none-cut, none-view}
use Rattle.rows.proofs.Counts.{none-counted}
use Rattle.rows.proofs.list.Rows.new.Goals as goal

pub invariant_of-result : goal.invariant_of-result
invariant_of-result c = rw (c.new.ensures.items, c.new-2.ensures.items, c.new-3.ensures.items) (none-cut, rw none-view none-counted)

pub returns : goal.returns
returns c = rw (c.new.ensures.items, c.new-2.ensures.items, c.new-3.ensures.items) none-view

use Rattle.ear_order.proofs.Founding.{founded_from}
use Rattle.ear_order.proofs.sparing.founded.Goals as goal

pub returns-clause-founded : goal.returns-clause-founded
returns-clause-founded c = founded_from c.args.g.now c.nodes-nodes.ensures.graph c.args.old.now c.deref.result.now c.args.u c.requires (rw c.deref.ensures.value c.in_ok-rest.ensures)
    c.in_ok-found.found.order.items c.in_ok-found.found.parent.items c.in_ok-found.found.rank.items c.in_ok-found.ensures

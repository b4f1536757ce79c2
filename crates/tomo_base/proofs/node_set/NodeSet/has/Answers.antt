use Rattle.std.proofs.Common.{◌∙◌, ap}
use Rattle.tomo_base.specs.Sets.{has}
use Rattle.tomo_base.proofs.Ascending.{is_ok-search}
use Rattle.tomo_base.proofs.node_set.NodeSet.has.Goals as goal

pub returns : goal.returns
returns c = c.is_ok.ensures.value ∙ (is_ok-search c.self.inside.nodes.items c.args.v c.binary_search.result c.self.invariant (rw c.deref.ensures.value at c.binary_search.ensures.position) ∙ ap (λ xs. has xs c.args.v) c.self.view_is)

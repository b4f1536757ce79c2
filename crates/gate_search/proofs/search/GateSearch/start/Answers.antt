use Rattle.std.proofs.Common.{◌∙◌, arith}
use Rattle.gate_search.proofs.Stopping.{begun}
use Rattle.gate_search.proofs.search.GateSearch.start.Goals as goal

pub returns-clause-search : goal.returns-clause-search
returns-clause-search c =
    let old = c.forget.new.found in
    λ free is_free. record {
      search = rw (c.in_ok-reach.ensures.order, c.in_ok-reach.ensures.parents, c.in_ok-reach.ensures.ranks)
          (begun c.args.g.now free c.args.x old.order.items old.parent.items old.rank.items c.requires.node is_free (c.forget.ensures.parents ∙ c.nodes.ensures.nodes) (rw c.nodes.ensures.nodes at c.forget.ensures.ranks) c.forget.ensures.order);
      head = omega arith;
    }

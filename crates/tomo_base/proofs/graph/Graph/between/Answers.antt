use Rattle.tomo_base.proofs.Rows.{found_link, no_link, found_back, none_back}
use Rattle.tomo_base.proofs.graph.Graph.between.Goals as goal

pub returns-then-first-second-clause-found : goal.returns-then-first-second-clause-found
returns-then-first-second-clause-found c = found_link _ _ _ _ _ c.hops-first.ensures c.link_to.ensures.found

pub returns-then-first-second-clause-none : goal.returns-then-first-second-clause-none
returns-then-first-second-clause-none c = no_link _ _ _ _ _ c.hops-first.ensures c.link_to.ensures.none

pub returns-else-first-second-clause-found : goal.returns-else-first-second-clause-found
returns-else-first-second-clause-found c = found_back _ _ _ _ (found_link _ _ _ _ _ c.hops-second.ensures c.link_to-else-first-second.ensures.found)

pub returns-else-first-second-clause-none : goal.returns-else-first-second-clause-none
returns-else-first-second-clause-none c = none_back _ _ _ _ (no_link _ _ _ _ _ c.hops-second.ensures c.link_to-else-first-second.ensures.none)

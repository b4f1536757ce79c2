use Rattle.std.proofs.Common.{◌≡◌, ◌++◌, take}
use Rattle.tomo_base.specs.Cuts.{hub_links}
use Rattle.extended_graph.proofs.extending.extend.Given as goal

abbrev pub invariant-loop-v : goal.invariant-loop-v
invariant-loop-v l = l.links.items ≡ l.g.links ++ hub_links l.g.nodes (take l.v-index l.v-items)

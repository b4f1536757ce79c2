use Rattle.std.proofs.Common.{◌≡◌, map, take}
use Rattle.topology.specs.Topology.{link_between}
use Rattle.topology.proofs.links.Links.to_vec.Given as goal

abbrev pub invariant-loop-a : goal.invariant-loop-a
invariant-loop-a l = l.links.items ≡ map link_between (take l.a-index l.a-items)

use Rattle.std.proofs.Common.{◌≡◌, take}
use Rattle.tomo_base.specs.SetLists.{lists_of}
use Rattle.blocks.proofs.node_lists.ordered_sets.Given as goal

-- the sets so far
abbrev pub invariant-loop-nodes : goal.invariant-loop-nodes
invariant-loop-nodes l = l.sets ≡ take l.nodes-index (lists_of l.nodes-items)

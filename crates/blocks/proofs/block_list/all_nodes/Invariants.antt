use Rattle.std.proofs.Common.{◌≡◌}
use Rattle.tomo_base.specs.Sets.{members}
use Rattle.tomo_base.specs.Walks.{everything}
use Rattle.blocks.proofs.block_list.all_nodes.Given as goal

-- the nodes so far
abbrev pub invariant-loop-v : goal.invariant-loop-v
invariant-loop-v l = l.all.items ≡ members l.v everything

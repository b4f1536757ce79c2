use Rattle.std.proofs.Common.{◌≤◌, ◌*◌, take, length}
use Rattle.tomo_base.specs.Limits.{node_limit}
use Rattle.tomo_base.specs.SetLists.{lists_of}
use Rattle.answers.proofs.ThreeBlocks.{Gathers}
use Rattle.answers.proofs.parts.all_three_blocks.Given as goal

-- the lists are the three-blocks of the blocks so far, at most a thousand of each
abbrev pub invariant-loop-i : goal.invariant-loop-i
invariant-loop-i l = Gathers l.g (take l.i l.blocks) (lists_of l.lists.items) × (length l.lists.items ≤ node_limit * l.i)

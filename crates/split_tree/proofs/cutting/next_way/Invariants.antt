use Rattle.std.proofs.Common.{length}
use Rattle.split_tree.proofs.cutting.next_way.Given as goal

-- each way is taken away
abbrev pub decreases-loop-way : goal.decreases-loop-way
decreases-loop-way l = length l.ways.items

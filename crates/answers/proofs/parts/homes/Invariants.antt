use Rattle.answers.proofs.ThreeBlocks.{Homes}
use Rattle.answers.proofs.parts.homes.Given as goal

-- the numbers of the blocks of the sets so far
abbrev pub invariant-loop-i : goal.invariant-loop-i
invariant-loop-i l = Homes l.blocks l.sets l.i l.homes.items

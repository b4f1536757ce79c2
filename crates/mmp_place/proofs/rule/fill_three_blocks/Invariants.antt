use Rattle.std.proofs.Common.{take}
use Rattle.tomo_base.specs.Sets.{has}
use Rattle.mmp_place.specs.Steps.{FillsThreeBlocks}
use Rattle.mmp_place.proofs.rule.fill_three_blocks.Given as goal

-- the three-blocks of the blocks so far are filled
abbrev pub invariant-loop-i : goal.invariant-loop-i
invariant-loop-i l = FillsThreeBlocks l.g (take l.i l.blocks) (has l.initial.m) (has l.m)

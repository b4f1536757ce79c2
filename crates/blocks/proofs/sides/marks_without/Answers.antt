use Rattle.std.proofs.Common.{arith}
use Rattle.blocks.proofs.Filtering.{marks_but}
use Rattle.blocks.proofs.sides.marks_without.Goals as goal

pub returns-clause-marks : goal.returns-clause-marks
returns-clause-marks c = λ w. marks_but _ _ _ w (omega (arith, c.in_ok-marks.ensures.length, c.requires.out)) (c.in_ok-marks.ensures.marks w)

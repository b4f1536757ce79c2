use Rattle.std.proofs.Common.{arith}
use Rattle.tomo_base.specs.Sets.{has}
use Rattle.split_tree.proofs.Marking.{marks_two}
use Rattle.split_tree.proofs.marks.marks_with.Goals as goal

pub returns-clause-marks : goal.returns-clause-marks
returns-clause-marks c = λ w. marks_two (has c.args.nodes.now) c.in_ok-marks.marks.items c.args.pair.a c.args.pair.b w
    (omega (arith, c.in_ok-marks.ensures.length, c.requires.first)) (omega (arith, c.in_ok-marks.ensures.length, c.requires.second)) c.in_ok-marks.ensures.marks

use Rattle.std.proofs.Common.{◌∙◌}
use Rattle.tomo_base.specs.Search.{mark_of}
use Rattle.ear_order.proofs.Spots.{borders_is}
use Rattle.ear_order.proofs.candidates.borders.Goals as goal

pub returns-then-not-marks-v : goal.returns-then-not-marks-v
returns-then-not-marks-v c = c.is_some.ensures ∙ borders_is c.args.g.now c.nodes.ensures.graph (mark_of c.args.marks.now) c.args.v c.nodes.result c.near.result c.nodes.ensures.nodes c.if-not-marks-v.true
    c.near.ensures.link c.near.ensures.marked c.near.ensures.none

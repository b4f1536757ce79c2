use Rattle.std.proofs.Common.{◌==◌, slice_index}
use Rattle.tomo_base.proofs.Ranges.{below-none}
use Rattle.pocket_bound.proofs.gathering.class_of.Goals as goal

pub loop-u-init : goal.loop-u-init
loop-u-init c = λ w. rw c.new-class.ensures (below-none (λ u. slice_index c.args.labels.now u == slice_index c.args.labels.now c.args.v) w)

use Rattle.std.proofs.Common.{◌≡◌, length, take, slice_index}
use Rattle.tomo_base.specs.Sets.{has}
use Rattle.pocket_bound.proofs.Joining.{AreMet}
use Rattle.pocket_bound.proofs.labelling.met_labels.Given as goal

-- the labels of the nodes so far are marked
abbrev pub invariant-loop-v : goal.invariant-loop-v
invariant-loop-v l = record {
  size : length l.met.items ≡ l.fn.count;
  marked : AreMet (length l.labels) (slice_index l.labels) (has (take l.v-index l.v-items)) l.met.items;
}

use Rattle.std.proofs.Common.{◌≡◌, ◌&&◌, ◌==◌, ℕ, nat_lt, slice_index}
use Rattle.tomo_base.specs.Sets.{has}
use Rattle.pocket_bound.proofs.gathering.class_of.Given as goal

-- the nodes before u with the label
abbrev pub invariant-loop-u : goal.invariant-loop-u
invariant-loop-u l = (w : ℕ) → has l.class w ≡ (nat_lt w l.u && (slice_index l.labels w == slice_index l.labels l.v))

use Rattle.std.proofs.Common.{◌≡◌, ◌<◌, ℕ, [], false, slice_index_or}
use Rattle.tomo_base.specs.Sets.{has}
use Rattle.cross_links.proofs.meeting.path_with.Given as goal

-- the node lies on no path so far
abbrev pub invariant-loop-i : goal.invariant-loop-i
invariant-loop-i l = (k : ℕ) → k < l.i → has (slice_index_or l.paths k []) l.node ≡ false

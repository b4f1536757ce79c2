use Rattle.std.proofs.Common.{◌<◌, length, All}
use Rattle.gate_search.proofs.starts.take_free.Given as goal

abbrev pub invariant-loop-v : goal.invariant-loop-v
invariant-loop-v l = All (λ v. v < length l.free) l.starts.items

abbrev pub decreases-loop-v : goal.decreases-loop-v
decreases-loop-v l = length l.starts.items

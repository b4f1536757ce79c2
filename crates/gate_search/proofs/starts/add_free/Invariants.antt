use Rattle.std.proofs.Common.{◌<◌, length, All}
use Rattle.gate_search.proofs.starts.add_free.Given as goal

abbrev pub invariant-loop-hop : goal.invariant-loop-hop
invariant-loop-hop l = All (λ v. v < length l.free) l.starts.items

use Rattle.std.specs.List.{AllWithin}
use Rattle.tomo_base.specs.Search.{mark_of}
use Rattle.gate_search.proofs.Hops.{IsPast}
use Rattle.gate_search.proofs.gates.outer.Given as goal

-- the hops so far are no gates
abbrev pub invariant-loop-hop : goal.invariant-loop-hop
invariant-loop-hop l = AllWithin (λ h. IsPast (mark_of l.nodes) (mark_of l.free) l.c l.d h.node) l.hop-items 0 l.hop-index

use Rattle.std.proofs.Common.{◌≡◌, ◌<◌, ◌⊎◌, ℕ, true, false, get_or, length, IsTrue}
use Rattle.tomo_base.specs.Network.{linked}
use Rattle.tomo_base.specs.declared.graph.Hop.{Hop}
use Rattle.tomo_base.specs.Search.{mark_of}
use Rattle.gate_search.proofs.advancing.free_at_first.Given as goal

-- the root has no mark, nor have the nodes of the hops so far; no other node of the set has lost its mark, and none got one
abbrev pub invariant-loop-hop : goal.invariant-loop-hop
invariant-loop-hop l = record {
  size : length l.free.items ≡ l.g.nodes;
  root : mark_of l.free.items l.root ≡ false;
  inside : (v : ℕ) → mark_of l.free.items v ≡ true → mark_of l.nodes v ≡ true;
  near : (k : ℕ) (e : Hop) → k < l.hop-index → mark_of l.free.items (get_or l.hop-items k e).node ≡ false;
  only : (v : ℕ) → mark_of l.nodes v ≡ true → mark_of l.free.items v ≡ false → (v ≡ l.root) ⊎ IsTrue (linked l.g l.root v);
}

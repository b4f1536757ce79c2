use Rattle.std.proofs.Common.{◌≡◌, ◌<◌, ◌⊎◌, ℕ, true, get_or, length, IsTrue}
use Rattle.tomo_base.specs.Network.{linked}
use Rattle.tomo_base.specs.declared.graph.Hop.{Hop}
use Rattle.tomo_base.specs.Search.{mark_of}
use Rattle.three_conn.proofs.known.begin.Given as goal

-- the root has a mark, the nodes of the hops so far have one, and no node that is not linked to the root
abbrev pub invariant-loop-hop : goal.invariant-loop-hop
invariant-loop-hop l = record {
  size : length l.held.items ≡ l.g.nodes;
  root : mark_of l.held.items l.root ≡ true;
  near : (k : ℕ) (e : Hop) → k < l.hop-index → mark_of l.held.items (get_or l.hop-items k e).node ≡ true;
  only : (v : ℕ) → mark_of l.held.items v ≡ true → (v ≡ l.root) ⊎ IsTrue (linked l.g l.root v);
}

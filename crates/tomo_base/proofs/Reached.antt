-- What a search from one node has reached: exactly the free nodes to which walks over free nodes lead.
use Rattle.std.proofs.Common.{◌≡◌, ℕ, zero, suc, ◌+◌, ◌<◌, ◌≤◌, Bool, true, ◌&&◌, nat_lt, List, [], ◌∷◌, length, IsTrue, refl, arith, subst}
use Rattle.std.proofs.lemmas.Bool.{lt-ltb, ltb-true, and_parts, and_from}
use Rattle.tomo_base.specs.Network.{Network, linked, IsGraph}
use Rattle.tomo_base.specs.Walks.{StepsFrom, end_of, Reaches, everything, IsConnected}
use Rattle.tomo_base.specs.Search.{mark_of, entry_at, IsSearch}
use Rattle.tomo_base.proofs.Links.{linked_below, linked_comm}
use Rattle.tomo_base.proofs.Walks.{Reaches-after, Reaches-within, Reaches_comm, connected_by}
use Rattle.tomo_base.proofs.Ranks.{few_ranked}

-- the nodes with a rank below this one
abbrev pub ranked_below : ℕ → List ℕ → ℕ → ℕ → Bool
ranked_below n rank r v = nat_lt v n && nat_lt (entry_at rank v) r

module _ (g : Network) (free : List Bool) (x head : ℕ) (order parent rank : List ℕ) (graph : IsGraph g) (s : IsSearch g free (x ∷ []) head order parent rank) where
  -- a node with a rank stands at its place, and is free
  pub placed_free : (v r : ℕ) → r ≤ g.nodes → IsTrue (ranked_below g.nodes rank r v) → (v < g.nodes) × (entry_at rank v < r) × (entry_at rank v < length order) × (entry_at order (entry_at rank v) ≡ v) × (mark_of free v ≡ true)
  placed_free v r few t =
      let parts = and_parts (nat_lt v g.nodes) (nat_lt (entry_at rank v) r) t in
      let node : v < g.nodes = ltb-true v g.nodes parts.0 in
      let low : entry_at rank v < r = ltb-true (entry_at rank v) r parts.1 in
      let at = s.ranks.placed v node (omega (arith, low, few)) in
      (node, low, at.0, at.1, subst (λ u. mark_of free u ≡ true) at.1 (s.ranks.allowed (entry_at rank v) at.0))

  -- the parent of a node at a place after the first
  pub parent_at : (k : ℕ) → 1 ≤ k → k < length order → let p = entry_at parent (entry_at order k) in (p < g.nodes) × (entry_at rank p < k) × IsTrue (linked g p (entry_at order k)) × (entry_at order (entry_at rank p) ≡ p)
  parent_at k some l =
      let step = s.steps k some l in
      let p = entry_at parent (entry_at order k) in
      let node : p < g.nodes = (linked_below g.nodes g.links p (entry_at order k) graph step.1).0 in
      let at = s.ranks.placed p node (omega (arith, step.0, l, few_ranked g.nodes free order rank s.ranks)) in
      (node, step.0, step.1, at.1)

  -- the way up to the first node goes over nodes of lower rank
  pub way_up : (b k : ℕ) → k < b → k < length order → Reaches g (ranked_below g.nodes rank k) (entry_at order k) x
  way_up zero k lt l = absurd (omega (arith, lt))
  way_up (suc b) zero lt l = ([], tt, tt, (s.begins 0 (omega arith)).1)
  way_up (suc b) (suc k) lt l =
      let p = entry_at parent (entry_at order (suc k)) in
      let up = parent_at (suc k) (omega arith) l in
      let node : p < g.nodes = up.0 in
      let low : entry_at rank p < suc k = up.1 in
      let rest : Reaches g (ranked_below g.nodes rank (entry_at rank p)) p x =
      subst (λ z. Reaches g (ranked_below g.nodes rank (entry_at rank p)) z x) up.3 (way_up b (entry_at rank p) (omega (arith, low, lt)) (omega (arith, low, l))) in
      Reaches-after g (ranked_below g.nodes rank (suc k)) (entry_at order (suc k)) p x (linked_comm g p (entry_at order (suc k)) up.2)
      (and_from (nat_lt p g.nodes) (nat_lt (entry_at rank p) (suc k)) (lt-ltb p g.nodes node) (lt-ltb (entry_at rank p) (suc k) low))
      (Reaches-within g (ranked_below g.nodes rank (entry_at rank p)) (ranked_below g.nodes rank (suc k)) p x (λ v t.
      let parts = and_parts (nat_lt v g.nodes) (nat_lt (entry_at rank v) (entry_at rank p)) t in
      let lower : entry_at rank v < entry_at rank p = ltb-true (entry_at rank v) (entry_at rank p) parts.1 in
      and_from (nat_lt v g.nodes) (nat_lt (entry_at rank v) (suc k)) parts.0 (lt-ltb (entry_at rank v) (suc k) (omega (arith, lower, low)))) rest)

  -- a walk over free nodes leads from the first node to each that has a rank
  pub search_reaches : (v : ℕ) → v < g.nodes → entry_at rank v < g.nodes → Reaches g (mark_of free) x v
  search_reaches v node ranked =
      let at = s.ranks.placed v node ranked in
      let is_free : mark_of free v ≡ true = subst (λ u. mark_of free u ≡ true) at.1 (s.ranks.allowed (entry_at rank v) at.0) in
      let up : Reaches g (ranked_below g.nodes rank (entry_at rank v)) v x =
      subst (λ z. Reaches g (ranked_below g.nodes rank (entry_at rank v)) z x) at.1 (way_up (entry_at rank v + 1) (entry_at rank v) (omega arith) at.0) in
      Reaches_comm g (mark_of free) v x is_free (Reaches-within g (ranked_below g.nodes rank (entry_at rank v)) (mark_of free) v x (λ u t. (placed_free u (entry_at rank v) (omega (arith, ranked)) t).4) up)

-- ---- the whole search from one node, where all nodes are free

-- the search has reached what a walk leads to
walk_reached : (g : Network) (free : List Bool) (seeds order parent rank : List ℕ) → IsGraph g → IsSearch g free seeds (length order) order parent rank → ((v : ℕ) → v < g.nodes → mark_of free v ≡ true)
    → (a : ℕ) (p : List ℕ) → a < g.nodes → entry_at rank a < g.nodes → StepsFrom g a p → entry_at rank (end_of a p) < g.nodes
walk_reached g free seeds order parent rank graph s all a [] node ranked steps = ranked
walk_reached g free seeds order parent rank graph s all a (b ∷ p) node ranked steps =
    let at = s.ranks.placed a node ranked in
    let next : b < g.nodes = (linked_below g.nodes g.links a b graph steps.0).1 in
    walk_reached g free seeds order parent rank graph s all b p next (s.closed (entry_at rank a) b at.0 (rw at.1 steps.0) (all b next)) steps.1

-- a node with a rank is reached
pub ranked_reached : (g : Network) (free : List Bool) (head x v : ℕ) (order parent rank : List ℕ) → IsGraph g → IsSearch g free (x ∷ []) head order parent rank → v < g.nodes → entry_at rank v < g.nodes → Reaches g everything x v
ranked_reached g free head x v order parent rank graph s node ranked = Reaches-within g (mark_of free) everything x v (λ u t. refl) (search_reaches g free x head order parent rank graph s v node ranked)

-- no walk leads to a node without
pub unranked_apart : (g : Network) (free : List Bool) (x v : ℕ) (order parent rank : List ℕ) → IsGraph g → IsSearch g free (x ∷ []) (length order) order parent rank → ((w : ℕ) → w < g.nodes → mark_of free w ≡ true)
    → g.nodes ≤ entry_at rank v → Reaches g everything x v → ⊥
unranked_apart g free x v order parent rank graph s all bare walk =
    let first = s.begins 0 (omega arith) in
    let start = s.ranks.ranked 0 first.0 in
    let node : x < g.nodes = rw first.1 at start.0 in
    let place : entry_at rank x ≡ 0 = rw first.1 at start.1 in
    let reached : entry_at rank (end_of x walk.0) < g.nodes = walk_reached g free (x ∷ []) order parent rank graph s all x walk.0 node (omega (arith, place, node)) walk.1 in
    let ranked : entry_at rank v < g.nodes = rw walk.3 at reached in
    omega (arith, bare, ranked)

-- where walks lead from one node to all, the graph is connected
pub connected_from : (g : Network) (x : ℕ) → ((v : ℕ) → v < g.nodes → Reaches g everything x v) → IsConnected g
connected_from g x all = connected_by g everything x refl (λ v l t. all v l)

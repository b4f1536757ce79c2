-- What a search from one node has reached is a tree over free nodes.
use Rattle.std.proofs.Common.{◌≡◌, ℕ, ◌<◌, ◌≤◌, Bool, true, ◌==◌, List, [], ◌∷◌, length, All, IsTrue, refl, sym, ap, subst, ◌∙◌, arith}
use Rattle.std.proofs.lemmas.Bool.{or_left, or_right, eq-eqb}
use Rattle.tomo_base.specs.Network.{Network, linked, IsGraph}
use Rattle.tomo_base.specs.Sets.{has}
use Rattle.tomo_base.specs.Walks.{Reaches}
use Rattle.tomo_base.specs.Search.{mark_of, entry_at, IsSearch}
use Rattle.tomo_base.specs.declared.search.Swept.{Swept}
use Rattle.tomo_base.proofs.Links.{linked_below}
use Rattle.tomo_base.proofs.Walks.{Reaches-step, Reaches-within}
use Rattle.tomo_base.proofs.Ascending.{place_in, has-at, All-from_has}
use Rattle.gate_search.specs.Trees.{IsRanked, IsTree, GoesUpTo}
use Rattle.tomo_base.proofs.Ranks.{few_ranked}
use Rattle.tomo_base.proofs.Reached.{parent_at}

module _ (g : Network) (free : List Bool) (x head : ℕ) (s : Swept) (graph : IsGraph g) (search : IsSearch g free (x ∷ []) head s.order.items s.parent.items s.rank.items) where
  -- what is in the order has a rank
  pub ranked_in : (v : ℕ) → IsTrue (has s.order.items v) → IsRanked s v
  ranked_in v h =
      let at = place_in s.order.items v h in
      let is = search.ranks.ranked at.0 at.1 in
      let node : v < g.nodes = subst (λ z. z < g.nodes) at.2 is.0 in
      let rank : entry_at s.rank.items v ≡ at.0 = subst (λ z. entry_at s.rank.items z ≡ at.0) at.2 is.1 in
      (omega (arith, node, search.parents), omega (arith, rank, at.1, few_ranked g.nodes free s.order.items s.rank.items search.ranks, search.parents))

  -- it is free
  pub free_in : (v : ℕ) → IsTrue (has s.order.items v) → mark_of free v ≡ true
  free_in v h = let at = place_in s.order.items v h in subst (λ z. mark_of free z ≡ true) at.2 (search.ranks.allowed at.0 at.1)

  -- a node with a rank is in the order, at its place
  pub ranked_at : (v : ℕ) → IsRanked s v → (v < g.nodes) × (entry_at s.rank.items v < length s.order.items) × (entry_at s.order.items (entry_at s.rank.items v) ≡ v)
  ranked_at v r =
      let node : v < g.nodes = omega (arith, r.0, search.parents) in
      let at = search.ranks.placed v node (omega (arith, r.1, search.parents)) in
      (node, at.0, at.1)

  -- so it stands there
  pub in_ranked : (v : ℕ) → v < g.nodes → entry_at s.rank.items v < g.nodes → IsTrue (has s.order.items v)
  in_ranked v node ranked =
      let at = search.ranks.placed v node ranked in
      subst (λ z. has s.order.items z ≡ true) at.1 (has-at s.order.items (entry_at s.rank.items v) 0 at.0)

  -- a node with a rank is free
  pub ranked_free : (v : ℕ) → IsRanked s v → (v < g.nodes) × (mark_of free v ≡ true)
  ranked_free v r = let at = ranked_at v r in (at.0, subst (λ z. mark_of free z ≡ true) at.2 (search.ranks.allowed (entry_at s.rank.items v) at.1))

  -- all of the order are nodes
  pub order_below : All (λ v. v < g.nodes) s.order.items
  order_below = All-from_has (λ v. v < g.nodes) s.order.items (λ v h. omega (arith, (ranked_in v h).0, search.parents))

  -- the first node is in the order
  pub first_in : IsTrue (has s.order.items x)
  first_in = let first = search.begins 0 (omega arith) in subst (λ z. has s.order.items z ≡ true) first.1 (has-at s.order.items 0 0 first.0)

  -- where all of the order were looked at, no link leaves it to another free node
  pub order_closed : length s.order.items ≤ head → (u v : ℕ) → IsTrue (has s.order.items u) → IsTrue (linked g u v) → mark_of free v ≡ true → IsTrue (has s.order.items v)
  order_closed all u v h l t =
      let at = place_in s.order.items u h in
      in_ranked v (linked_below g.nodes g.links u v graph l).1 (search.closed at.0 v (omega (arith, at.1, all)) (subst (λ z. IsTrue (linked g z v)) (sym at.2) l) t)

  -- the search is a tree
  pub is_tree : IsTree s
  is_tree = record {
    one_each = search.ranks.one_each ∙ sym search.parents;
    up = λ v r some.
        let at = ranked_at v r in
        let up = parent_at g free x head s.order.items s.parent.items s.rank.items graph search (entry_at s.rank.items v) some at.1 in
        let p = entry_at s.parent.items v in
        let same : entry_at s.parent.items (entry_at s.order.items (entry_at s.rank.items v)) ≡ p = ap (entry_at s.parent.items) at.2 in
        let node : p < g.nodes = subst (λ z. z < g.nodes) same up.0 in
        let low : entry_at s.rank.items p < entry_at s.rank.items v = subst (λ z. entry_at s.rank.items z < entry_at s.rank.items v) same up.1 in
        ((omega (arith, node, search.parents), omega (arith, low, r.1)), low);
    once = λ v u r t same. sym (ranked_at v r).2 ∙ (ap (entry_at s.order.items) same ∙ (ranked_at u t).2);
  }

  -- a link joins a node and its parent
  pub parent_linked : (v : ℕ) → IsRanked s v → 1 ≤ entry_at s.rank.items v → IsTrue (linked g (entry_at s.parent.items v) v)
  parent_linked v r some =
      let at = ranked_at v r in
      let up = parent_at g free x head s.order.items s.parent.items s.rank.items graph search (entry_at s.rank.items v) some at.1 in
      subst (λ z. IsTrue (linked g (entry_at s.parent.items z) z)) at.2 up.2

  -- a way up, walked down
  pub way_down : (y : ℕ) (p : List ℕ) (u : ℕ) → GoesUpTo s.parent.items y p u → ((v : ℕ) → IsTrue (has p v) → IsRanked s v × (1 ≤ entry_at s.rank.items v)) → Reaches g (has p) u y
  unfolding has
  way_down y [] u h up = ([], tt, tt, sym h)
  way_down y (e ∷ p) u h up =
      let here : IsTrue (has (e ∷ p) e) = or_left (e == e) (has p e) (eq-eqb e e refl) in
      let at = up e here in
      let rest : Reaches g (has p) u (entry_at s.parent.items e) = way_down (entry_at s.parent.items e) p u h.1 (λ v k. up v (or_right (e == v) (has p v) k)) in
      subst (λ z. Reaches g (has (e ∷ p)) u z) (sym h.0)
      (Reaches-step g (has (e ∷ p)) u (entry_at s.parent.items e) e (Reaches-within g (has p) (has (e ∷ p)) u (entry_at s.parent.items e) (λ v k. or_right (e == v) (has p v) k) rest)
      (parent_linked e at.0 at.1) here)

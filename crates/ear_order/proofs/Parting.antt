-- What a search from one node reaches is its part: connected, and closed among the free nodes.
use Rattle.std.proofs.Common.{◌≡◌, ℕ, zero, suc, ◌+◌, ◌<◌, Bool, true, List, [], ◌∷◌, length, sym, subst, ap, ◌∙◌, arith}
use Rattle.tomo_base.specs.Network.{Network, linked, IsGraph}
use Rattle.tomo_base.specs.Sets.{has}
use Rattle.tomo_base.specs.Walks.{Reaches}
use Rattle.tomo_base.specs.Search.{mark_of, entry_at, IsSearch}
use Rattle.tomo_base.proofs.Links.{linked_below}
use Rattle.tomo_base.proofs.Walks.{Reaches-trans, Reaches-step, Reaches_comm}
use Rattle.tomo_base.proofs.Ranks.{few_ranked}
use Rattle.tomo_base.proofs.Ascending.{place_in, has-at}
use Rattle.ear_order.specs.Turns.{IsFreePart}

module _ (g : Network) (graph : IsGraph g) (free : List Bool) (x : ℕ) (order parent rank : List ℕ) (s : IsSearch g free (x ∷ []) (length order) order parent rank)
    (inside : ℕ → Bool) (is : (v : ℕ) → inside v ≡ has order v) where
  at : (k : ℕ) → k < length order → inside (entry_at order k) ≡ true
  at k l = is (entry_at order k) ∙ has-at order k 0 l

  place : (v : ℕ) → inside v ≡ true → (k : ℕ) × (k < length order) × (entry_at order k ≡ v)
  place v h = place_in order v (sym (is v) ∙ h)

  -- a walk inside the part leads to each of its nodes
  walk_to : (b k : ℕ) → k < b → k < length order → Reaches g inside x (entry_at order k)
  walk_to zero k lt l = absurd (omega arith)
  walk_to (suc b) zero lt l = ([], tt, tt, sym (s.begins 0 (omega arith)).1)
  walk_to (suc b) (suc k) lt l =
      let step = s.steps (suc k) (omega arith) l in
      let p = entry_at parent (entry_at order (suc k)) in
      let node : p < g.nodes = (linked_below g.nodes g.links p (entry_at order (suc k)) graph step.1).0 in
      let there = s.ranks.placed p node (omega (arith, step.0, l, few_ranked g.nodes free order rank s.ranks)) in
      Reaches-step g inside x p (entry_at order (suc k)) (subst (Reaches g inside x) there.1 (walk_to b (entry_at rank p) (omega (arith, step.0, lt)) there.0)) step.1 (at (suc k) l)

  walk_inside : (v : ℕ) → inside v ≡ true → Reaches g inside x v
  walk_inside v h = let k = place v h in subst (Reaches g inside x) k.2 (walk_to (k.0 + 1) k.0 (omega arith) k.1)

  x_inside : inside x ≡ true
  x_inside = let first = s.begins 0 (omega arith) in subst (λ v. inside v ≡ true) first.1 (at 0 first.0)

  -- the part of x
  pub part_from : IsFreePart g (mark_of free) x order inside
  part_from = record {
    holds = x_inside;
    within = λ v h. let k = place v h in subst (λ w. mark_of free w ≡ true) k.2 (s.ranks.allowed k.0 k.1);
    closed = λ v w h l f.
        let k = place v h in
        let ranked = s.closed k.0 w k.1 (subst (λ u. linked g u w ≡ true) (sym k.2) l) f in
        let there = s.ranks.placed w (linked_below g.nodes g.links v w graph l).1 ranked in
        subst (λ u. inside u ≡ true) there.1 (at (entry_at rank w) there.0);
    connected = λ a b la lb ha hb. Reaches-trans g inside a x b (Reaches_comm g inside x a x_inside (walk_inside a ha)) (walk_inside b hb);
    first = (s.begins 0 (omega arith)).1;
    listed = λ v h. sym (is v) ∙ h;
    only = at;
    different = λ i j lt l same.
        let a = (s.ranks.ranked i (omega (arith, lt, l))).1 in
        let b = (s.ranks.ranked j l).1 in
        let equal : entry_at rank (entry_at order i) ≡ entry_at rank (entry_at order j) = ap (entry_at rank) same in
        omega (arith, a, b, equal, lt);
  }

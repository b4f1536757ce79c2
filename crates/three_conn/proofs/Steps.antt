-- What one step of growing gives: three ways out of the free nodes, or free nodes from which links lead out to at most two nodes.
use Rattle.std.proofs.Common.{◌≡◌, ◌≢◌, ℕ, ◌+◌, ◌<◌, ◌≤◌, ◌⊎◌, Bool, true, false, ◌==◌, List, [], ◌∷◌, length, IsTrue, refl, sym, subst, ◌∙◌, inl, inr, arith}
use Rattle.std.proofs.lemmas.Bool.{cases_Bool, both_ways, or_cases, or_left, or_right, eqb-true, eq-eqb}
use Rattle.tomo_base.specs.Network.{Network, linked, IsGraph}
use Rattle.tomo_base.specs.Sets.{has, Within, Apart}
use Rattle.tomo_base.specs.Walks.{Reaches}
use Rattle.tomo_base.specs.Search.{mark_of, entry_at, IsSearch}
use Rattle.tomo_base.specs.declared.search.Swept.{Swept}
use Rattle.tomo_base.proofs.Walks.{Reaches-step, Reaches-within}
use Rattle.tomo_base.proofs.Ascending.{place_in}
use Rattle.tomo_base.specs.Parting.{with_one}
use Rattle.three_conn.specs.Growing.{HasWaysOut, IsGateway, IsShutOff}
use Rattle.gate_search.specs.Trees.{IsRanked}
use Rattle.gate_search.specs.Gates.{IsGate, HasNoGate}
use Rattle.gate_search.proofs.Trees.{free_in, ranked_at, ranked_free, first_in, order_closed, way_down}
use Rattle.three_conn.specs.WaysUp.{IsWayUp}
use Rattle.three_conn.proofs.Holding.{IsArm, three_arms}
use Rattle.tomo_base.proofs.Reached.{ranked_below, placed_free, way_up}

-- a set with one node more has the node
with_one-here : (q : ℕ → Bool) (u : ℕ) → IsTrue (with_one q u u)
with_one-here q u = or_right (q u) (u == u) (eq-eqb u u refl)

module _ (g : Network) (free : List Bool) (x head : ℕ) (s : Swept) (graph : IsGraph g) (search : IsSearch g free (x ∷ []) head s.order.items s.parent.items s.rank.items) where
  module _ (w : ℕ → Bool) where
    -- two sets of free nodes, each with a node that is not free, share no node where the sets and the two nodes do not
    feet_apart : (p q : ℕ → Bool) (a b : ℕ) → Within p (mark_of free) → Within q (mark_of free) → mark_of free a ≡ false → mark_of free b ≡ false → a ≢ b → Apart p q → Apart (with_one p a) (with_one q b)
    feet_apart p q a b pf qf fa fb ne apart v h k = elim (or_cases (p v) (v == a) h) [
      | inl i ↦ elim (or_cases (q v) (v == b) k) [
        | inl j ↦ apart v i j
        | inr e ↦ both_ways (mark_of free b) fb (subst (λ z. mark_of free z ≡ true) (eqb-true v b e) (pf v i))
      ]
      | inr e ↦ elim (or_cases (q v) (v == b) k) [
        | inl j ↦ both_ways (mark_of free a) fa (subst (λ z. mark_of free z ≡ true) (eqb-true v a e) (qf v j))
        | inr f ↦ ne (sym (eqb-true v a e) ∙ eqb-true v b f)
      ]
    ]

    -- a walk over free nodes to a gate is an arm
    gate_arm : (p : ℕ → Bool) (u i c d e : ℕ) → Within (mark_of free) w → Within p (mark_of free) → Reaches g p u i → IsGate g w (mark_of free) i c d e → IsArm g w (mark_of free) u (with_one p e)
    gate_arm p u i c d e inside pf walk gate = record {
      foot = e;
      foot_in = with_one-here p e;
      foot_out = gate.not_free;
      inside = λ v h. elim (or_cases (p v) (v == e) h) [
        | inl k ↦ inside v (pf v k)
        | inr k ↦ subst (λ z. w z ≡ true) (sym (eqb-true v e k)) gate.in_set
      ];
      walk = Reaches-step g (with_one p e) u i e (Reaches-within g p (with_one p e) u i (λ v k. or_left (p v) (v == e) k) walk) gate.linked (with_one-here p e);
    }

    -- the node where two ways up meet has ways out, where both begin at gates, and the search does, and the gates lead to three nodes
    pub meeting_leads : (y z u a b e c₁ d₁ : ℕ) → IsWayUp s y z u u → IsRanked s u → IsGate g w (mark_of free) x c₁ d₁ a → IsGate g w (mark_of free) y a a b → IsGate g w (mark_of free) z a b e
        → Within (mark_of free) w → HasWaysOut g w (mark_of free) u
    meeting_leads y z u a b e c₁ d₁ ways ranked first second third inside =
        let n = g.nodes in
        let r = entry_at s.rank.items u in
        let at = ranked_at g free x head s graph search u ranked in
        let few : r ≤ n = omega (arith, ranked.1, search.parents) in
        let low : ℕ → Bool = ranked_below n s.rank.items r in
        let lower : (v : ℕ) → IsTrue (low v) → entry_at s.rank.items v < r = λ v t. (placed_free g free x head s.order.items s.parent.items s.rank.items graph search v r few t).1 in
        let low_free : Within low (mark_of free) = λ v t. (placed_free g free x head s.order.items s.parent.items s.rank.items graph search v r few t).4 in
        let is_free : (v : ℕ) → IsRanked s v → mark_of free v ≡ true = λ v k. (ranked_free g free x head s graph search v k).1 in
        let high : (v : ℕ) → IsTrue (has ways.first v) ⊎ IsTrue (has ways.second v) → IsRanked s v × (1 ≤ entry_at s.rank.items v) = λ v k. let o = ways.above v k in (o.0, omega (arith, o.1)) in
        let first_free : Within (has ways.first) (mark_of free) = λ v k. is_free v (high v (inl k)).0 in
        let second_free : Within (has ways.second) (mark_of free) = λ v k. is_free v (high v (inr k)).0 in
        let to_x : Reaches g low u x = subst (λ o. Reaches g low o x) at.2 (way_up g free x head s.order.items s.parent.items s.rank.items graph search (r + 1) r (omega arith) at.1) in
        let to_y : Reaches g (has ways.first) u y = way_down g free x head s graph search y ways.first u ways.first_leads (λ v k. high v (inl k)) in
        let to_z : Reaches g (has ways.second) u z = way_down g free x head s graph search z ways.second u ways.second_leads (λ v k. high v (inr k)) in
        let below_first : Apart low (has ways.first) = λ v k l. omega (arith, lower v k, (ways.above v (inl l)).1) in
        let below_second : Apart low (has ways.second) = λ v k l. omega (arith, lower v k, (ways.above v (inr l)).1) in
        three_arms g w (mark_of free) (with_one low a) (with_one (has ways.first) b) (with_one (has ways.second) e) u
        (gate_arm low u x c₁ d₁ a inside low_free to_x first)
        (gate_arm (has ways.first) u y a a b inside first_free to_y second)
        (gate_arm (has ways.second) u z a b e inside second_free to_z third)
        (feet_apart low (has ways.first) a b low_free first_free first.not_free second.not_free (λ k. second.not_first (sym k)) below_first)
        (feet_apart low (has ways.second) a e low_free second_free first.not_free third.not_free (λ k. third.not_first (sym k)) below_second)
        (feet_apart (has ways.first) (has ways.second) b e first_free second_free second.not_free third.not_free (λ k. third.not_second (sym k)) ways.apart)

    -- the outer node of a gate of the search
    pub gate_end : (i c d e : ℕ) → IsTrue (has s.order.items i) → IsGate g w (mark_of free) i c d e → IsGateway g (mark_of free) (has s.order.items) e
    gate_end i c d e h gate = inr (gate.not_free, i, h, gate.linked)

    -- where the search has looked at all that it has reached, and all gates of these lead to two nodes, or fewer, these are shut off
    pub few_gates : (c d : ℕ) → length s.order.items ≤ head → ((k : ℕ) → k < head → HasNoGate g w (mark_of free) (entry_at s.order.items k) c d)
        → IsGateway g (mark_of free) (has s.order.items) c → IsGateway g (mark_of free) (has s.order.items) d → IsShutOff g w (mark_of free) (has s.order.items) c d
    few_gates c d all none end_c end_d = record {
      some = (x, first_in g free x head s graph search);
      inside = free_in g free x head s graph search;
      shut = λ u v k l t. elim (cases_Bool (mark_of free v)) [
        | inl is_free ↦ inl (order_closed g free x head s graph search all u v k l is_free)
        | inr out ↦ let at = place_in s.order.items u k in inr (none at.0 (omega (arith, at.1, all)) v (subst (λ z. IsTrue (linked g z v)) (sym at.2) l) t out)
      ];
      first = end_c;
      second = end_d;
    }

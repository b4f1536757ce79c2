-- A piece that two nodes cut into two parts, by closed sets.
use Rattle.std.proofs.Common.{◌≡◌, ℕ, ◌≤◌, ◌⊎◌, Bool, true, false, ◌&&◌, ◌||◌, ◌==◌, List, length, IsTrue, refl, sym, ◌∙◌, inl, inr, arith}
use Rattle.std.proofs.lemmas.Bool.{cases_eq, both_ways, and_parts, and_from, or_cases, or_left, or_right, eqb-true, false_from_ne_true}
use Rattle.tomo_base.specs.declared.graph.Link.{Link}
use Rattle.tomo_base.specs.Limits.{graph_node_limit}
use Rattle.tomo_base.specs.Network.{joins, any_joins, linked}
use Rattle.tomo_base.specs.Sets.{has, count}
use Rattle.tomo_base.specs.SetLists.{IsSetBelow}
use Rattle.tomo_base.proofs.Entering.{joins_its_ends}
use Rattle.tomo_base.proofs.Links.{joins_gives}
use Rattle.tomo_base.proofs.Counts.{count-le}
use Rattle.tomo_base.proofs.Members.{count-has}
use Rattle.tomo_base.specs.Parting.{without_two}
use Rattle.tomo_base.proofs.Parting.{without_two-from, without_two-in, without_two-ne}
use Rattle.tomo_base.proofs.Picks.{pick2}
use Rattle.split_tree.specs.declared.piece.Piece.{Piece}
use Rattle.split_tree.specs.Pieces.{net, IsPiece, IsPartAt}
use Rattle.split_tree.proofs.Rigid.{Ends}
use Rattle.split_tree.proofs.Sound.{Half}

-- the set of an ascending list has as many nodes as the list
pub size_of : (n : ℕ) (xs : List ℕ) → IsSetBelow n xs → count n (has xs) ≡ length xs
size_of n xs is = count-has n xs is.ascending is.below

-- a piece has no more nodes than a graph may have
pub few_nodes : (n : ℕ) (p : Piece) → IsPiece n p → n ≤ graph_node_limit → length p.nodes ≤ graph_node_limit
few_nodes n p is few = omega (arith, count-le n (has p.nodes), size_of n p.nodes is.set, few)

-- the inner nodes of a part
abbrev pub inner : Piece → Link → ℕ → Bool
inner part pair = without_two (has part.nodes) pair.a pair.b

-- two parts that share the pair alone: the other has a node that the one has not
pub outer : (n : ℕ) (whole one other : Piece) (pair : Link) → IsPiece n other → IsPartAt whole pair other
    → ((v : ℕ) → IsTrue (has one.nodes v) → IsTrue (has other.nodes v) → IsTrue ((v == pair.a) || (v == pair.b)))
    → (v : ℕ) × IsTrue (has whole.nodes v) × (has one.nodes v ≡ false)
outer n whole one other pair is part shared =
    let v = pick2 n (has other.nodes) (omega (arith, size_of n other.nodes is.set, part.more)) pair.a pair.b in (
      v.0,
      part.inside v.0 v.2,
      false_from_ne_true (has one.nodes v.0) (λ h. elim (or_cases (v.0 == pair.a) (v.0 == pair.b) (shared v.0 h v.2)) [
        | inl e ↦ v.3 (eqb-true v.0 pair.a e)
        | inr e ↦ v.4 (eqb-true v.0 pair.b e)
      ]),
    )

-- a part, by closed sets
pub half_of : (n : ℕ) (whole part : Piece) (pair : Link) → IsPiece n whole → IsPiece n part → IsPartAt whole pair part
    → (out : ℕ) → IsTrue (has whole.nodes out) → has part.nodes out ≡ false
    → Half (net n whole) (has whole.nodes) (inner part pair) pair.a pair.b (net n part) (has part.nodes)
half_of n whole part pair is is' at out out_in out_off =
    let P : ℕ → Bool = has part.nodes in
    let a = pair.a in
    let b = pair.b in
    let old : (u v : ℕ) → linked (net n part) u v ≡ true → (linked (net n whole) u v ≡ true) ⊎ Ends u v a b = λ u v l.
    elim (or_cases (any_joins whole.links u v && (P u && P v)) (joins pair u v) (sym (at.links u v) ∙ l)) [
      | inl e ↦ inl (and_parts (any_joins whole.links u v) (P u && P v) e).0
      | inr e ↦ inr (elim (joins_gives pair u v e) [ inl s ↦ inl (sym s.0, sym s.1) | inr s ↦ inr (sym s.1, sym s.0) ])
    ] in
    let gate : (u v : ℕ) → IsTrue (P u) → IsTrue (has whole.nodes v) → P v ≡ false → linked (net n whole) u v ≡ true → (u ≡ a) ⊎ (u ≡ b) = λ u v pu wv nv l. elim (cases_eq u a) [
      | inl e ↦ inl e
      | inr na ↦ elim (cases_eq u b) [ inl e ↦ inr e | inr nb ↦ absurd (both_ways (P v) nv (at.shut u v pu na nb l)) ]
    ] in
    record {
      part = record {
        sub = at.inside;
        at_a = at.first;
        at_b = at.second;
        pair = at.links a b ∙ or_right (any_joins whole.links a b && (P a && P b)) (joins pair a b) (joins_its_ends pair);
        keep = λ u v pu pv l. at.links u v ∙ or_left (any_joins whole.links u v && (P u && P v)) (joins pair u v) (and_from (any_joins whole.links u v) (P u && P v) l (and_from (P u) (P v) pu pv));
        gate = gate;
      };
      here = λ u v l. and_parts (P u) (P v) (is'.ends u v l);
      old = old;
      inner = λ v m. at.inside v (without_two-in P a b v m);
      has = λ v m. without_two-in P a b v m;
      nodes = λ v pv. elim (cases_eq v a) [
        | inl e ↦ inr (inl e)
        | inr na ↦ elim (cases_eq v b) [ inl e ↦ inr (inr e) | inr nb ↦ inl (without_two-from P a b v pv na nb) ]
      ];
      a_off = false_from_ne_true (without_two P a b a) (λ m. (without_two-ne P a b a m).0 refl);
      b_off = false_from_ne_true (without_two P a b b) (λ m. (without_two-ne P a b b m).1 refl);
      shut = λ u v m l iv.
          let ne = without_two-ne P a b u m in
          let ne' = without_two-ne (has whole.nodes) a b v iv in
          without_two-from P a b v (at.shut u v (without_two-in P a b u m) ne.0 ne.1 l) ne'.0 ne'.1;
      out = out;
      out_in = out_in;
      out_off = out_off;
    }

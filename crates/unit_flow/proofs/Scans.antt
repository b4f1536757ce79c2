-- What is known while the neighbours of a reached node are looked at, and while the queue is gone through.
use Rattle.std.proofs.Common.{ℕ, ◌+◌, ◌<◌, ◌≡◌, Bool, true, false, eqb, List, length, get_or, Option, refl, sym, ap, subst, ◌∙◌, arith, inl, inr}
use Rattle.std.proofs.lemmas.Bool.{cases_eq, eqb-true}
use Rattle.std.proofs.lemmas.List.{get_or_default}
use Rattle.tomo_base.specs.declared.graph.Hop.{Hop}
use Rattle.tomo_base.specs.Network.{linked}
use Rattle.tomo_base.specs.Search.{mark_of}
use Rattle.tomo_base.specs.Table.{AreHops}
use Rattle.tomo_base.proofs.Rows.{any_joins_gives, any_joins-from}
use Rattle.unit_flow.specs.declared.arrays.Reached.{Reached}
use Rattle.unit_flow.specs.Flows.{Task}
use Rattle.unit_flow.specs.Steps.{node_at}
use Rattle.unit_flow.specs.Search.{IsSettled, IsDone, Reaching, Grows, Looked}
use Rattle.unit_flow.proofs.Reaches.{Grows-trans, settled_more}

-- the node u and its first i neighbours lead to marked nodes, or no step may go over them
pub record Scanned (t : Task) (f : ℕ → Option ℕ) (seen₀ seen : List Bool) (queue₀ queue : List Reached) (u : ℕ) (hops : List Hop) (i : ℕ) : Type 0 where
  pub reaching : Reaching t f seen queue
  pub grows : Grows seen₀ seen queue₀ queue
  pub own : eqb u t.source ≡ false → t.banned u ≡ false → IsSettled f seen u
  pub each : (k : ℕ) (d : Hop) → k < i → let h : Hop = get_or hops k d in (eqb h.node t.source ≡ false → t.banned h.node ≡ false → IsSettled f seen h.node)

-- the node of a place that was read
pub read_node : (q : List Reached) (k : ℕ) (r : Reached) → k < length q → r ≡ get_or q k r → r.node ≡ node_at q k
read_node q k r l e = ap (λ (z : Reached). z.node) (e ∙ get_or_default q k r (record { node = 0; from = 0; via = 0 }) l)

-- after the look at one neighbour more
pub scan_step : (t : Task) (f : ℕ → Option ℕ) (seen₀ seen seen' : List Bool) (queue₀ queue queue' : List Reached) (u : ℕ) (hops : List Hop) (i : ℕ) (e : Hop) → i < length hops
    → Scanned t f seen₀ seen queue₀ queue u hops i → Looked t f (let h : Hop = get_or hops i e in h.node) false seen seen' queue queue' → Scanned t f seen₀ seen' queue₀ queue' u hops (i + 1)
scan_step t f seen₀ seen seen' queue₀ queue queue' u hops i e lt s l = record {
  reaching = l.reaching;
  grows = Grows-trans seen₀ seen seen' queue₀ queue queue' s.grows l.grows;
  own = λ a b. settled_more f seen seen' u l.grows.marks (s.own a b);
  each = λ k d lk. elim (cases_eq k i) as (λ _. let h : Hop = get_or hops k d in (eqb h.node t.source ≡ false → t.banned h.node ≡ false → IsSettled f seen' h.node)) [
    | inl same ↦ subst (λ (h : Hop). eqb h.node t.source ≡ false → t.banned h.node ≡ false → IsSettled f seen' h.node) (get_or_default hops i e d lt ∙ ap (λ z. get_or hops z d) (sym same)) (l.settled refl)
    | inr ne ↦ λ a b. let h : Hop = get_or hops k d in settled_more f seen seen' h.node l.grows.marks (s.each k d (omega (arith, lk, ne)) a b)
  ];
}

-- a neighbour is near
pub hop_near : (t : Task) (u : ℕ) (hops : List Hop) (i : ℕ) (e : Hop) → AreHops t.graph.links u hops → i < length hops → linked t.graph u (let h : Hop = get_or hops i e in h.node) ≡ true
hop_near t u hops i e are lt = let h : Hop = get_or hops i e in any_joins-from t.graph.links h.link u h.node (are.sound i e lt)

-- after all neighbours, everything near u leads to marked nodes
pub scan_end : (t : Task) (f : ℕ → Option ℕ) (seen₀ seen : List Bool) (queue₀ queue : List Reached) (u : ℕ) (hops : List Hop) → AreHops t.graph.links u hops → Scanned t f seen₀ seen queue₀ queue u hops (length hops) → IsDone t f seen u
scan_end t f seen₀ seen queue₀ queue u hops are s = λ v near vs b. elim near as (λ _. IsSettled f seen v) [
  | inl e ↦ let same : u ≡ v = eqb-true u v e in subst (IsSettled f seen) same (s.own (ap (λ z. eqb z t.source) same ∙ vs) (ap t.banned same ∙ b))
  | inr e ↦
      let at = any_joins_gives t.graph.links u v e in
      let there = are.complete at.0 v at.1 in
      let hop : Hop = record { node = v; link = at.0 } in
      let same : (let h : Hop = get_or hops there.0 hop in h.node) ≡ v = ap (λ (h : Hop). h.node) there.2 in
      subst (IsSettled f seen) same (s.each there.0 hop there.1 (ap (λ z. eqb z t.source) same ∙ vs) (ap t.banned same ∙ b))
]

-- what is done stays done
pub done_more : (t : Task) (f : ℕ → Option ℕ) (seen seen' : List Bool) (u : ℕ) → ((w : ℕ) → mark_of seen w ≡ true → mark_of seen' w ≡ true) → IsDone t f seen u → IsDone t f seen' u
done_more t f seen seen' u up d = λ v near vs b. settled_more f seen seen' v up (d v near vs b)

-- the places before head are done
abbrev pub DoneBefore : Task → (ℕ → Option ℕ) → List Bool → List Reached → ℕ → Type 0
DoneBefore t f seen queue head = (k : ℕ) → k < head → IsDone t f seen (node_at queue k)

-- one place more is done
pub done_next : (t : Task) (f : ℕ → Option ℕ) (seen seen' : List Bool) (queue queue' : List Reached) (head : ℕ) → head < length queue → Grows seen seen' queue queue' → IsDone t f seen' (node_at queue' head) → DoneBefore t f seen queue head → DoneBefore t f seen' queue' (head + 1)
done_next t f seen seen' queue queue' head lt g here before = λ k l. elim (cases_eq k head) as (λ _. IsDone t f seen' (node_at queue' k)) [
  | inl same ↦ subst (λ z. IsDone t f seen' (node_at queue' z)) (sym same) here
  | inr ne ↦ subst (IsDone t f seen') (sym (g.nodes k (omega (arith, l, ne, lt)))) (done_more t f seen seen' (node_at queue k) g.marks (before k (omega (arith, l, ne))))
]

-- A node is seen where it stands in no bad part, and the first other one has the bad set around it.
use Rattle.std.proofs.Common.{ℕ, ◌≡◌, ◌≢◌, ◌<◌, ◌≤◌, ◌⊎◌, ◌==◌, ◌∙◌, Bool, List, [], ◌∷◌, true, false, not, IsTrue, All, arith, inl, inr, refl, sym, subst}
use Rattle.std.proofs.lemmas.Bool.{both_ways, cases_Bool, cases_eq, cases_lt, and_parts, and_from, or_left, or_right, not_from_false, not-true, false_from_ne_true, eq-eqb}
use Rattle.std.specs.List.Sorted.{IsStrictlyIncreasing}
use Rattle.tomo_base.specs.Network.{Network, IsGraph}
use Rattle.tomo_base.specs.Sets.{has, size, outside, touches, meet, Avoids}
use Rattle.tomo_base.specs.Walks.{IsConnected, everything}
use Rattle.tomo_base.specs.BadParts.{IsBadPart, NoBadPart, IsCutOff}
use Rattle.tomo_base.specs.Cuts.{extended, IsThreeConnected}
use Rattle.tomo_base.specs.Search.{mark_of}
use Rattle.tomo_base.specs.Parting.{without_two}
use Rattle.tomo_base.proofs.Counts.{count_gives, count-some, count_two, count-mono, find}
use Rattle.tomo_base.proofs.Members.{count_has-le}
use Rattle.tomo_base.proofs.Links.{linked_below, linked_comm}
use Rattle.tomo_base.proofs.Touching.{touches-from, touches_gives}
use Rattle.tomo_base.proofs.Walks.{stays_in}
use Rattle.tomo_base.proofs.Reaching.{reached}
use Rattle.tomo_base.proofs.Parting.{without_two-ne, without_two-from, flip}
use Rattle.three_conn.specs.Seen.{IsSeen, AreSeen}
use Rattle.unit_flow.specs.Fan.{IsLeastCutOff}
use Rattle.ident_laws.proofs.BadParts.{no_bad_part}
use Rattle.extended_graph.proofs.Telling.{three_connected_by_monitors}
use Rattle.judge.specs.Verdict.{IsFoundBad}

-- no node below v stands in a bad part
abbrev pub IsClear : Network → (ℕ → Bool) → ℕ → Type 0
IsClear g m v = (p : ℕ → Bool) → IsBadPart g m p → (w : ℕ) → w < g.nodes → IsTrue (p w) → v ≤ w

-- a node that is seen stands in none: without the outside neighbours of the part no walk leads out of it
pub seen_clear : (g : Network) (m : ℕ → Bool) (v : ℕ) → IsGraph g → ((e : ℕ) → IsTrue (m e) → e < g.nodes) → v < g.nodes → IsSeen g m v → (p : ℕ → Bool) → IsBadPart g m p → IsTrue (p v) → ⊥
seen_clear g m v graph below node seen p bad at =
    let by : (c d : ℕ) → c ≢ v → d ≢ v → ((u : ℕ) → u < g.nodes → IsTrue (outside g p u) → (u ≡ c) ⊎ (u ≡ d)) → ⊥ = λ c d nc nd only.
    let to = seen c d nc nd in
    let end : IsTrue (p to.0) = stays_in g (without_two everything c d) p v to.0 (λ u w here l left. elim (cases_Bool (p w)) [
      | inl there ↦ there
      | inr out ↦
          let ends = linked_below g.nodes g.links u w graph l in
          let ne = without_two-ne everything c d w left in
          absurd (elim (only w ends.1 (and_from (not (p w)) (touches g p w) (not_from_false (p w) out) (touches-from g p w u ends.0 here (linked_comm g u w l)))) [ inl e ↦ ne.0 e | inr e ↦ ne.1 e ])
    ]) at to.2 in
    both_ways (m to.0) (bad.free to.0 (below to.0 to.1) end) to.1 in
    let outer : (e : ℕ) → IsTrue (outside g p e) → e ≢ v = λ e o same. both_ways (p e) (not-true (p e) (and_parts (not (p e)) (touches g p e) o).0) (subst (λ z. p z ≡ true) (sym same) at) in
    let two = count_two g.nodes (outside g p) bad.few in
    elim two.3 [
      | inl pair ↦ by two.0 two.1 (outer two.0 pair.1) (outer two.1 pair.2) two.2
      | inr same ↦
          let only : (u : ℕ) → u < g.nodes → IsTrue (outside g p u) → u ≡ two.0 = λ u l o. elim (two.2 u l o) [ inl e ↦ e | inr e ↦ e ∙ sym same ] in
          elim (cases_Bool (outside g p two.0)) [
            | inl there ↦ by two.0 two.0 (outer two.0 there) (outer two.0 there) (λ u l o. inl (only u l o))
            | inr none ↦
                let past : g.nodes ≢ v = λ e. omega (arith, e, node) in
                by g.nodes g.nodes past past (λ u l o. absurd (both_ways (outside g p two.0) none (subst (λ z. outside g p z ≡ true) (only u l o) o)))
          ]
    ]

-- what is not another number than both is one of the two
one_of_two : (c d u : ℕ) → (u ≢ c → u ≢ d → ⊥) → IsTrue (has (c ∷ d ∷ []) u)
unfolding has
one_of_two c d u both = elim (cases_eq c u) [
  | inl e ↦ or_left (c == u) _ (eq-eqb c u e)
  | inr uc ↦ elim (cases_eq d u) [ inl e ↦ or_right (c == u) _ (or_left (d == u) false (eq-eqb d u e)) | inr ud ↦ absurd (both (flip uc) (flip ud)) ]
]

-- a node that fewer than three nodes do not cut off is seen: what walks without two others reach has no other outside neighbours
pub wide_seen : (g : Network) (m : ℕ → Bool) (v : ℕ) → IsGraph g → v < g.nodes → ((p : ℕ → Bool) (k : ℕ) → IsCutOff g m v k p → 3 ≤ k) → IsSeen g m v
wide_seen g m v graph node wide c d nc nd =
    let q = without_two everything c d in
    let r = reached g (λ u w l. linked_below g.nodes g.links u w graph l) q v node (without_two-from everything c d v refl (flip nc) (flip nd)) in
    elim (find g.nodes (meet r.0 m)) [
      | inl e ↦ let parts = and_parts (r.0 e.0) (m e.0) e.2 in (e.0, parts.1, r.1.walks e.0 parts.0)
      | inr none ↦
          let free : Avoids g r.0 m = λ u l t. false_from_ne_true (m u) (λ h. both_ways (meet r.0 m u) (none u l) (and_from (r.0 u) (m u) t h)) in
          let most : 3 ≤ size g (outside g r.0) = wide r.0 (size g (outside g r.0)) (record { holds = r.1.start; free = free; bounded = refl }) in
          let few : size g (outside g r.0) ≤ size g (has (c ∷ d ∷ [])) = count-mono g.nodes (outside g r.0) (has (c ∷ d ∷ [])) (λ u l o.
          let parts = and_parts (not (r.0 u)) (touches g r.0 u) o in
          let near = touches_gives g r.0 u parts.1 in
          one_of_two c d u (λ uc ud. both_ways (r.0 u) (not-true (r.0 u) parts.0) (r.1.closed near.0 u near.2 (linked_comm g u near.0 near.3) (without_two-from everything c d u refl uc ud)))) in
          absurd (omega (arith, most, few, count_has-le g.nodes (c ∷ d ∷ [])))
    ]

-- where all nodes below v are seen, none of them stands in a bad part
pub clear_seen : (g : Network) (m : ℕ → Bool) (marks : List Bool) (v : ℕ) → IsGraph g → ((e : ℕ) → IsTrue (m e) → e < g.nodes) → AreSeen g m marks → ((k : ℕ) → k < v → mark_of marks k ≡ true) → IsClear g m v
clear_seen g m marks v graph below are all p bad w l at = elim (cases_lt w v) [
  | inl low ↦ absurd (seen_clear g m w graph below l ((are.marked w l).0 (all w low)) p bad at)
  | inr past ↦ past
]

-- where no node stands in one there is none
pub all_clear : (g : Network) (m : ℕ → Bool) → IsClear g m g.nodes → NoBadPart g m
all_clear g m clear p bad = let some = count_gives g.nodes p bad.nonempty in omega (arith, some.1, clear p bad some.0 some.1 some.2)

-- the first node that fewer than three nodes cut off has the bad set around it
pub found_bad : (g : Network) (m : ℕ → Bool) (v k : ℕ) (nodes : List ℕ) → IsGraph g → IsConnected g → 3 ≤ g.nodes → v < g.nodes → IsClear g m v → k < 3 → IsLeastCutOff g m v k (has nodes) → All (λ u. u < g.nodes) nodes → IsStrictlyIncreasing nodes
    → IsFoundBad g m nodes
found_bad g m v k nodes graph connected three node clear few least below ascending =
    let q = has nodes in
    let bad : IsBadPart g m q = record { nonempty = count-some g.nodes q v node least.cut.holds; free = least.cut.free; few = rw least.cut.bounded (omega (arith, few)) } in
    record {
      unidentified = λ all. no_bad_part g m graph connected (omega (arith, three)) all q bad;
      bad_set = record {
        node = v;
        is_node = node;
        in_bad_part = (q, bad, least.cut.holds);
        least_node = clear;
        fewest = k;
        reached = (q, least.cut);
        no_fewer = λ p j cut. least.no_fewer p j cut;
        is_met = λ u l. (λ at p cut. least.least p cut u l at, λ all. all q least.cut);
      };
      below = below;
      ascending = ascending;
    }

-- where there is a bad set the extended graph is not three-connected
pub found_parts : (g : Network) (m nodes : List ℕ) → IsGraph g → IsConnected g → 3 ≤ g.nodes → All (λ v. v < g.nodes) m → IsFoundBad g (has m) nodes → IsThreeConnected (extended g m) → ⊥
found_parts g m nodes graph connected three below found t = (three_connected_by_monitors g m graph connected three below).0 t found.bad_set.in_bad_part.0 found.bad_set.in_bad_part.1

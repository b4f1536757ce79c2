-- A bad part parts the extended graph, and what at most two nodes part in it gives a bad part.
use Rattle.std.proofs.Common.{◌≡◌, ℕ, suc, ◌+◌, ◌<◌, ◌≤◌, ◌⊎◌, Bool, true, false, not, ◌&&◌, nat_lt, List, [], ◌∷◌, All, IsTrue, refl, sym, ap, subst, inl, inr, arith, lt-ltb}
use Rattle.std.proofs.lemmas.Bool.{cases_Bool, cases_eq, cases_lt, both_ways, and_parts, and_from, and_left, not_from_false, not-true, false_from_ne_true, ltb-true}
use Rattle.tomo_base.specs.Network.{Network, linked, IsGraph}
use Rattle.tomo_base.specs.Sets.{one_if, count, has, size, outside, touches, complement}
use Rattle.tomo_base.specs.Walks.{StepsFrom, AllIn, Reaches, IsConnected, everything}
use Rattle.tomo_base.specs.BadParts.{IsBadPart, NoBadPart}
use Rattle.tomo_base.specs.Cuts.{extended, IsThreeConnected}
use Rattle.tomo_base.proofs.Counts.{find, count-mono, count-some, count-everything, count_gives}
use Rattle.tomo_base.proofs.Links.{linked_below, linked_comm}
use Rattle.tomo_base.proofs.Touching.{touches-from, touches_gives, outside_below}
use Rattle.tomo_base.proofs.Walks.{stays_in}
use Rattle.tomo_base.proofs.Reaching.{reached}
use Rattle.extended_graph.specs.Laws.{ThreeConnectedByMonitors}
use Rattle.extended_graph.proofs.HubLinks.{old_linked, hub_linked, linked_cases, extended_below}

-- a count up to n + 2 is that up to n, and one more for each of the last two that is in the set
count-two : (n : ℕ) (q : ℕ → Bool) → count (n + 2) q ≡ count n q + (one_if (q n) + one_if (q (n + 1)))
unfolding count
count-two n q =
    let two : n + 2 ≡ suc (suc n) = omega arith in
    let one : n + 1 ≡ suc n = omega arith in
    rw (two, one) (omega arith)

-- where neither is, it is the same
count-two_more : (n : ℕ) (q : ℕ → Bool) → q n ≡ false → q (n + 1) ≡ false → count (n + 2) q ≡ count n q
count-two_more n q a b = omega (arith, count-two n q, ap one_if a, ap one_if b)

-- a count up to n + 2 is no less than that up to n
count-at_least : (n : ℕ) (q : ℕ → Bool) → count n q ≤ count (n + 2) q
count-at_least n q = omega (arith, count-two n q)

-- where the last two are in the set, it is two more
count-with_last : (n : ℕ) (q : ℕ → Bool) → q n ≡ true → q (n + 1) ≡ true → count (n + 2) q ≡ count n q + 2
count-with_last n q a b = omega (arith, count-two n q, ap one_if a, ap one_if b)

module _ (g : Network) (m : List ℕ) (graph : IsGraph g) (below : All (λ v. v < g.nodes) m) where
  -- a bad part parts the extended graph
  pub bad_part_parts : (q : ℕ → Bool) → IsBadPart g (has m) q → IsThreeConnected (extended g m) → ⊥
  bad_part_parts q bad three =
      let n = g.nodes in
      let c : ℕ → Bool = outside g q in
      let part : ℕ → Bool = λ v. q v && nat_lt v n in
      let far : (v : ℕ) → n ≤ v → c v ≡ false = λ v l. outside_below g q v graph l in
      let few : count (n + 2) c ≤ 2 = omega (arith, count-two_more n c (far n (omega arith)) (far (n + 1) (omega arith)), bad.few) in
      let first = count_gives n q bad.nonempty in
      let first_in : IsTrue (part first.0) = and_from (q first.0) (nat_lt first.0 n) first.2 (lt-ltb first.0 n first.1) in
      let first_left : IsTrue (complement c first.0) = not_from_false (c first.0) (and_left (not (q first.0)) (touches g q first.0) (ap not first.2)) in
      let shut : (u v : ℕ) → IsTrue (part u) → IsTrue (linked (extended g m) u v) → IsTrue (complement c v) → IsTrue (part v) = λ u v t l k.
      let at = and_parts (q u) (nat_lt u n) t in
      let node : u < n = ltb-true u n at.1 in
      elim (linked_cases g m u v l) [
        | inl old ↦
            let ends = linked_below n g.links u v graph old in
            and_from (q v) (nat_lt v n) (elim (cases_Bool (q v)) [
              | inl there ↦ there
              | inr out ↦ absurd (both_ways (complement c v) (ap not (and_from (not (q v)) (touches g q v) (not_from_false (q v) out) (touches-from g q v u node at.0 (linked_comm g u v old)))) k)
            ]) (lt-ltb v n ends.1)
        | inr new ↦ absurd (elim new [
          | inl hub ↦ both_ways (has m u) (bad.free u node at.0) hub.0
          | inr hub ↦ elim hub.1 [ inl s ↦ omega (arith, s, node) | inr s ↦ omega (arith, s, node) ]
        ])
      ] in
      let walk = three.whole c few first.0 n (omega (arith, first.1)) (omega arith) first_left (not_from_false (c n) (far n (omega arith))) in
      let last = and_parts (q n) (nat_lt n n) (stays_in (extended g m) (complement c) part first.0 n shut first_in walk) in
      omega (arith, ltb-true n n last.1)

  module _ (three : 3 ≤ g.nodes) (none : NoBadPart g (has m)) (c : ℕ → Bool) (few : count (g.nodes + 2) c ≤ 2) where
    -- one of the two further nodes
    abbrev one : ℕ
    one = g.nodes

    abbrev other : ℕ
    other = g.nodes + 1

    -- a set of nodes of the graph of which c holds all outside neighbours has at most two
    few_outside : (q : ℕ → Bool) → ((v : ℕ) → v < g.nodes → IsTrue (outside g q v) → IsTrue (c v)) → size g (outside g q) ≤ 2
    few_outside q all = omega (arith, count-mono g.nodes (outside g q) c all, count-at_least g.nodes c, few)

    -- a side, closed in what is left
    record IsSide (q : ℕ → Bool) : Type 0 where
      is_left : (v : ℕ) → IsTrue (q v) → (v < g.nodes + 2) × (c v ≡ false)
      shut : (u v : ℕ) → IsTrue (q u) → IsTrue (linked (extended g m) u v) → c v ≡ false → IsTrue (q v)

    -- a side without further nodes, where one of these is left, is bad
    lone_side : (q : ℕ → Bool) → IsSide q → q one ≡ false → q other ≡ false → (x : ℕ) → IsTrue (q x) → (c one ≡ false) ⊎ (c other ≡ false) → ⊥
    lone_side q side off₁ off₂ x here left =
        let node : (v : ℕ) → IsTrue (q v) → v < g.nodes = λ v t. elim (cases_eq v one) [
          | inl s ↦ absurd (both_ways (q one) off₁ (subst (λ z. q z ≡ true) s t))
          | inr ne₁ ↦ elim (cases_eq v other) [
            | inl s ↦ absurd (both_ways (q other) off₂ (subst (λ z. q z ≡ true) s t))
            | inr ne₂ ↦ omega (arith, (side.is_left v t).0, ne₁, ne₂)
          ]
        ] in
        none q (record {
          nonempty = count-some g.nodes q x (node x here) here;
          free = λ v l t. false_from_ne_true (has m v) (λ h. elim left [
            | inl k ↦ both_ways (q one) off₁ (side.shut v one t (hub_linked g m v one h (inl refl)) k)
            | inr k ↦ both_ways (q other) off₂ (side.shut v other t (hub_linked g m v other h (inr refl)) k)
          ]);
          few = few_outside q (λ v l o.
              let parts = and_parts (not (q v)) (touches g q v) o in
              let near = touches_gives g q v parts.1 in
              elim (cases_Bool (c v)) [
                | inl there ↦ there
                | inr out ↦ absurd (both_ways (q v) (not-true (q v) parts.0) (side.shut near.0 v near.2 (old_linked g m near.0 v (linked_comm g v near.0 near.3)) out))
              ]);
        })

    -- where the further nodes are on different sides, all monitors are among the two
    both_sides : (p q : ℕ → Bool) → IsSide p → IsSide q → ((v : ℕ) → v < g.nodes → c v ≡ false → IsTrue (p v) ⊎ IsTrue (q v)) → c one ≡ false → c other ≡ false → q one ≡ false → p other ≡ false → ⊥
    both_sides p q sp sq all left₁ left₂ off₁ off₂ =
        let some : (v : ℕ) × (v < g.nodes) × (complement c v ≡ true) = elim (find g.nodes (complement c)) [
          | inl r ↦ r
          | inr none_left ↦
              let most : count g.nodes everything ≤ count g.nodes c = count-mono g.nodes everything c (λ v l t. elim (cases_Bool (c v)) [ inl h ↦ h | inr h ↦ absurd (both_ways (complement c v) (none_left v l) (ap not h)) ]) in
              absurd (omega (arith, most, count-everything g.nodes, count-at_least g.nodes c, few, three))
        ] in
        none (complement c) (record {
          nonempty = count-some g.nodes (complement c) some.0 some.1 some.2;
          free = λ v l t.
              let out : c v ≡ false = not-true (c v) t in
              false_from_ne_true (has m v) (λ h. elim (all v l out) [
                | inl k ↦ both_ways (p other) off₂ (sp.shut v other k (hub_linked g m v other h (inr refl)) left₂)
                | inr k ↦ both_ways (q one) off₁ (sq.shut v one k (hub_linked g m v one h (inl refl)) left₁)
              ]);
          few = few_outside (complement c) (λ v l o. elim (cases_Bool (c v)) [
            | inl there ↦ there
            | inr out ↦ absurd (both_ways (outside g (complement c) v) (and_left (not (complement c v)) (touches g (complement c) v) (ap (λ b. not (not b)) out)) o)
          ]);
        })

    -- a walk in the graph, where none of its nodes is taken away
    carried : ((v : ℕ) → v < g.nodes → c v ≡ false) → (a : ℕ) (walk : List ℕ) → StepsFrom g a walk → StepsFrom (extended g m) a walk × AllIn (complement c) walk
    carried all a [] s = (tt, tt)
    carried all a (b ∷ walk) s =
        let rest = carried all b walk s.1 in
        ((old_linked g m a b s.0, rest.0), (not_from_false (c b) (all b (linked_below g.nodes g.links a b graph s.0).1), rest.1))

    -- what is left is connected
    module _ (connected : IsConnected g) (a b : ℕ) (la : a < g.nodes + 2) (lb : b < g.nodes + 2) (ta : IsTrue (complement c a)) (tb : IsTrue (complement c b)) where
      -- where both further nodes are taken away, no node of the graph is
      graph_left : c one ≡ true → c other ≡ true → Reaches (extended g m) (complement c) a b
      graph_left t₁ t₂ =
          let all : (v : ℕ) → v < g.nodes → c v ≡ false = λ v l. false_from_ne_true (c v) (λ h.
          let some = count-some g.nodes c v l h in
          omega (arith, some, count-with_last g.nodes c t₁ t₂, few)) in
          let old : (v : ℕ) → v < g.nodes + 2 → IsTrue (complement c v) → v < g.nodes = λ v l t. elim (cases_lt v g.nodes) [
            | inl k ↦ k
            | inr k ↦ elim (cases_eq v one) [
              | inl s ↦ absurd (both_ways (complement c v) (ap not (subst (λ z. c z ≡ true) (sym s) t₁)) t)
              | inr ne ↦ let s : v ≡ other = omega (arith, l, k, ne) in absurd (both_ways (complement c v) (ap not (subst (λ z. c z ≡ true) (sym s) t₂)) t)
            ]
          ] in
          let walk = connected a b (old a la ta) (old b lb tb) refl refl in
          let steps = carried all a walk.0 walk.1 in
          (walk.0, steps.0, steps.1, walk.3)

      -- else a walk leads on, or the nodes that walks reach are one side, and the others the other
      one_left : (c one ≡ false) ⊎ (c other ≡ false) → Reaches (extended g m) (complement c) a b
      one_left left =
          let E = extended g m in
          let r = reached E (λ u v l. extended_below g m graph below u v l) (complement c) a la ta in
          let p : ℕ → Bool = r.0 in
          elim (cases_Bool (p b)) [
            | inl there ↦ r.1.walks b there
            | inr out ↦
                let q : ℕ → Bool = λ v. (not (c v) && not (p v)) && nat_lt v (g.nodes + 2) in
                let q_gives : (v : ℕ) → IsTrue (q v) → (c v ≡ false) × (p v ≡ false) × (v < g.nodes + 2) = λ v t.
                let outer = and_parts (not (c v) && not (p v)) (nat_lt v (g.nodes + 2)) t in
                let inner = and_parts (not (c v)) (not (p v)) outer.0 in
                (not-true (c v) inner.0, not-true (p v) inner.1, ltb-true v (g.nodes + 2) outer.1) in
                let q_from : (v : ℕ) → c v ≡ false → p v ≡ false → v < g.nodes + 2 → IsTrue (q v) = λ v k o l.
                and_from (not (c v) && not (p v)) (nat_lt v (g.nodes + 2)) (and_from (not (c v)) (not (p v)) (not_from_false (c v) k) (not_from_false (p v) o)) (lt-ltb v (g.nodes + 2) l) in
                let side_p : IsSide p = record {
                  is_left = λ v t. let at = r.1.inside v t in (at.0, not-true (c v) at.1);
                  shut = λ u v t l k. r.1.closed u v t l (not_from_false (c v) k);
                } in
                let side_q : IsSide q = record {
                  is_left = λ v t. let at = q_gives v t in (at.2, at.0);
                  shut = λ u v t l k.
                      let at = q_gives u t in
                      let ends = extended_below g m graph below u v l in
                      q_from v k (false_from_ne_true (p v) (λ h. both_ways (p u) at.1 (r.1.closed v u h (linked_comm E u v l) (not_from_false (c u) at.0)))) ends.1;
                } in
                let in_one : (v : ℕ) → v < g.nodes + 2 → c v ≡ false → IsTrue (p v) ⊎ IsTrue (q v) = λ v l k. elim (cases_Bool (p v)) [ inl h ↦ inl h | inr h ↦ inr (q_from v k h l) ] in
                let not_q : (v : ℕ) → IsTrue (p v) → q v ≡ false = λ v t. false_from_ne_true (q v) (λ h. both_ways (p v) (q_gives v h).1 t) in
                let not_p : (v : ℕ) → IsTrue (q v) → p v ≡ false = λ v t. (q_gives v t).1 in
                let at_b : IsTrue (q b) = q_from b (not-true (c b) tb) out lb in
                let low : one < g.nodes + 2 = omega arith in
                let high : other < g.nodes + 2 = omega arith in
                let both : (v : ℕ) → v < g.nodes → c v ≡ false → IsTrue (p v) ⊎ IsTrue (q v) = λ v l k. in_one v (omega (arith, l)) k in
                let turned : (v : ℕ) → v < g.nodes → c v ≡ false → IsTrue (q v) ⊎ IsTrue (p v) = λ v l k. elim (both v l k) [ inl h ↦ inr h | inr h ↦ inl h ] in
                absurd (elim (cases_Bool (p one)) [
                  | inl p₁ ↦ elim (cases_Bool (q other)) [
                    | inl q₂ ↦ both_sides p q side_p side_q both (side_p.is_left one p₁).1 (side_q.is_left other q₂).1 (not_q one p₁) (not_p other q₂)
                    | inr o₂ ↦ lone_side q side_q (not_q one p₁) o₂ b at_b left
                  ]
                  | inr o₁ ↦ elim (cases_Bool (q one)) [
                    | inl q₁ ↦ elim (cases_Bool (p other)) [
                      | inl p₂ ↦ both_sides q p side_q side_p turned (side_q.is_left one q₁).1 (side_p.is_left other p₂).1 (not_p one q₁) (not_q other p₂)
                      | inr o₂ ↦ lone_side p side_p o₁ o₂ a r.1.start left
                    ]
                    | inr n₁ ↦ elim (cases_Bool (p other)) [
                      | inl p₂ ↦ lone_side q side_q n₁ (not_q other p₂) b at_b left
                      | inr o₂ ↦ lone_side p side_p o₁ o₂ a r.1.start left
                    ]
                  ]
                ])
          ]

      -- either way
      pub still_joined : Reaches (extended g m) (complement c) a b
      still_joined = elim (cases_Bool (c one)) [
        | inr k ↦ one_left (inl k)
        | inl t₁ ↦ elim (cases_Bool (c other)) [ inl t₂ ↦ graph_left t₁ t₂ | inr k ↦ one_left (inr k) ]
      ]

-- the law
pub three_connected_by_monitors : ThreeConnectedByMonitors
three_connected_by_monitors g m graph connected three below = (
  (λ t q bad. bad_part_parts g m graph below q bad t),
  (λ none. record {
    four = omega (arith, three);
    whole = λ c few a b la lb ta tb. still_joined g m graph below three none c few connected a b la lb ta tb;
  }),
)

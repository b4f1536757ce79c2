-- A search through a zone from the neighbours of a node, and the path that leads back from what it reached.
use Rattle.std.proofs.Common.{◌≡◌, ◌≢◌, ◌⊎◌, ℕ, suc, ◌+◌, ◌-◌, ◌<◌, ◌≤◌, Bool, true, false, ◌||◌, ◌==◌, List, [], ◌∷◌, ◌++◌, length, get_or, AllPairs, refl, sym, subst, ap, ◌∙◌, inl, inr, arith}
use Rattle.std.proofs.lemmas.Bool.{cases_eq, cases_lt, both_ways, or_cases, or_left, or_right, eqb-true, eq-eqb, false≢true}
use Rattle.std.proofs.lemmas.List.{get_or_default, get_or_read, length_push}
use Rattle.std.proofs.lemmas.List.Quantifiers.{all_pairs_push}
use Rattle.tomo_base.specs.declared.graph.Hop.{Hop}
use Rattle.tomo_base.specs.declared.search.Swept.{Swept}
use Rattle.tomo_base.specs.Network.{Network, linked, IsGraph}
use Rattle.tomo_base.specs.Sets.{has}
use Rattle.tomo_base.specs.Table.{AreHops}
use Rattle.tomo_base.specs.Search.{mark_of, entry_at, IsSweep}
use Rattle.tomo_base.proofs.Links.{linked_below, linked_comm}
use Rattle.tomo_base.proofs.Members.{has-append}
use Rattle.tomo_base.proofs.Ranks.{few_ranked}
use Rattle.tomo_base.proofs.Ascending.{place_in, has-at}
use Rattle.ear_order.specs.Crossing.{Crosses}
use Rattle.ear_order.specs.Paths.{AreSeeds, LeadsBack, IsReached}
use Rattle.tomo_base.proofs.Rows.{hop_linked, linked_hop}
use Rattle.ear_order.proofs.Places.{EarAt}
use Rattle.tomo_base.proofs.Lists.{at_before, at_last}

-- ---- the seeds

-- what stands in a list with one node more
pub has-push : (xs : List ℕ) (x v : ℕ) → has (xs ++ x ∷ []) v ≡ (has xs v || (x == v))
unfolding has
has-push xs x v = has-append xs (x ∷ []) v ∙ ap (λ b. has xs v || b) (last (x == v))
  where
    last : (b : Bool) → (b || false) ≡ b
    last true = refl
    last false = refl

-- the neighbours so far that are in the zone: each is that of an earlier hop
pub record Seeding (g : Network) (zone : List Bool) (e : ℕ) (hops : List Hop) (i : ℕ) (seeds : List ℕ) : Type 0 where
  pub each : (v : ℕ) → has seeds v ≡ true → (linked g e v ≡ true) × (mark_of zone v ≡ true)
  pub earlier : (v : ℕ) → has seeds v ≡ true → (k : ℕ) × (d : Hop) × (k < i) × ((get_or hops k d).node ≡ v)
  pub all : (k : ℕ) (d : Hop) → k < i → mark_of zone (get_or hops k d).node ≡ true → has seeds (get_or hops k d).node ≡ true
  pub different : AllPairs (λ u v. u ≢ v) seeds

-- before the first hop
pub seeding_none : (g : Network) (zone : List Bool) (e : ℕ) (hops : List Hop) → Seeding g zone e hops 0 []
unfolding has
seeding_none g zone e hops = record {
  each = λ v h. absurd (false≢true h);
  earlier = λ v h. absurd (false≢true h);
  all = λ k d l. absurd (omega arith);
  different = λ i j d lt l. absurd (omega arith);
}

-- a neighbour that is not in the zone
pub seeding_past : (g : Network) (zone : List Bool) (e : ℕ) (hops : List Hop) (i : ℕ) (seeds : List ℕ) (d₀ : Hop) → i < length hops → mark_of zone (get_or hops i d₀).node ≡ false → Seeding g zone e hops i seeds → Seeding g zone e hops (i + 1) seeds
seeding_past g zone e hops i seeds d₀ l out s = record {
  each = s.each;
  earlier = λ v h. let k = s.earlier v h in (k.0, k.1, omega (arith, k.2), k.3);
  all = λ k d lt h. elim (cases_eq k i) [
    | inl same ↦ absurd (both_ways (mark_of zone (get_or hops i d₀).node) out (subst (λ (z : Hop). mark_of zone z.node ≡ true) (ap (λ z. get_or hops z d) same ∙ get_or_default hops i d d₀ l) h))
    | inr other ↦ s.all k d (omega arith) h
  ];
  different = s.different;
}

-- one that is
pub seeding_more : (g : Network) (zone : List Bool) (e : ℕ) (hops : List Hop) (i w : ℕ) (seeds : List ℕ) (d₀ : Hop) → AreHops g.links e hops → i < length hops → w ≡ (get_or hops i d₀).node → mark_of zone w ≡ true
    → Seeding g zone e hops i seeds → Seeding g zone e hops (i + 1) (seeds ++ w ∷ [])
seeding_more g zone e hops i w seeds d₀ are l is in_zone s =
    let new : (v : ℕ) → has seeds v ≡ true → v ≢ w = λ v h same.
    let k = s.earlier v h in
    let below : (get_or hops k.0 d₀).node < (get_or hops i d₀).node = are.ascending k.0 i d₀ k.2 l in
    let at : (get_or hops k.0 d₀).node ≡ (get_or hops k.0 k.1).node = ap (λ (z : Hop). z.node) (get_or_default hops k.0 d₀ k.1 (omega (arith, k.2, l))) in
    omega (arith, below, at, k.3, same, is) in
    let cases : (v : ℕ) → has (seeds ++ w ∷ []) v ≡ true → (has seeds v ≡ true) ⊎ (w ≡ v) = λ v h. elim (or_cases (has seeds v) (w == v) (sym (has-push seeds w v) ∙ h)) [ inl a ↦ inl a | inr b ↦ inr (eqb-true w v b) ] in
    record {
      each = λ v h. elim (cases v h) [
        | inl old ↦ s.each v old
        | inr same ↦ (subst (λ z. linked g e z ≡ true) (sym is ∙ same) (hop_linked g e hops i d₀ are l), subst (λ z. mark_of zone z ≡ true) same in_zone)
      ];
      earlier = λ v h. elim (cases v h) [
        | inl old ↦ (let k = s.earlier v old in (k.0, k.1, omega (arith, k.2), k.3))
        | inr same ↦ (i, d₀, omega arith, sym is ∙ same)
      ];
      all = λ k d lt h. has-push seeds w (get_or hops k d).node ∙ elim (cases_eq k i) [
        | inl same ↦ or_right (has seeds (get_or hops k d).node) (w == (get_or hops k d).node)
            (eq-eqb w (get_or hops k d).node (is ∙ ap (λ (z : Hop). z.node) (sym (ap (λ z. get_or hops z d) same ∙ get_or_default hops i d d₀ l))))
        | inr other ↦ or_left (has seeds (get_or hops k d).node) (w == (get_or hops k d).node) (s.all k d (omega arith) h)
      ];
      different = all_pairs_push (λ u v. u ≢ v) seeds w s.different (λ k d lt. new (get_or seeds k d) (has-at seeds k d lt));
    }

-- after the last hop
pub seeding_done : (g : Network) (zone : List Bool) (e : ℕ) (hops : List Hop) (i : ℕ) (seeds : List ℕ) → AreHops g.links e hops → length hops ≤ i → Seeding g zone e hops i seeds → AreSeeds g (mark_of zone) e seeds
seeding_done g zone e hops i seeds are all s = record {
  each = s.each;
  all = λ v l h.
      let k = linked_hop g e v hops are l in
      let d : Hop = record { node = 0; link = 0 } in
      subst (λ z. has seeds z ≡ true) (k.2 d) (s.all k.0 d (omega (arith, k.1, all)) (subst (λ z. mark_of zone z ≡ true) (sym (k.2 d)) h));
  different = s.different;
}

-- ---- the search

pub reached_from : (g : Network) → IsGraph g → (zone : List Bool) (e : ℕ) (seeds : List ℕ) (s : Swept) → AreSeeds g (mark_of zone) e seeds → IsSweep g zone seeds s → IsReached g (mark_of zone) e s
reached_from g graph zone e seeds s are w = record {
  leads_back = record { parents = w.parents; ranks = w.ranks.one_each; placed = w.ranks.ranked; back = back };
  within = λ v h. let k = place_in order v h in subst (λ z. mark_of zone z ≡ true) k.2 (w.ranks.allowed k.0 k.1);
  enters = λ v l h. let k = place_in seeds v (are.all v l h) in let b = w.begins k.0 k.1 in subst (λ z. has order z ≡ true) (b.1 ∙ k.2) (has-at order k.0 0 b.0);
  closed = λ v u h l f.
      let k = place_in order v h in
      let ranked = w.closed k.0 u k.1 (subst (λ z. linked g z u ≡ true) (sym k.2) l) f in
      let there = w.ranks.placed u (linked_below g.nodes g.links v u graph l).1 ranked in
      subst (λ z. has order z ≡ true) there.1 (has-at order (entry_at rank u) 0 there.0);
}
  where
    order : List ℕ
    order = s.order.items

    rank : List ℕ
    rank = s.rank.items

    parent : ℕ → ℕ
    parent v = entry_at s.parent.items v

    back : (v : ℕ) → has s.order.items v ≡ true → ((parent v ≡ v) × (linked g e v ≡ true))
        ⊎ ((has s.order.items (parent v) ≡ true) × (entry_at s.rank.items (parent v) < entry_at s.rank.items v) × (linked g (parent v) v ≡ true))
    back v h =
        let k = place_in s.order.items v h in
        let rank_is : entry_at s.rank.items v ≡ k.0 = ap (entry_at s.rank.items) (sym k.2) ∙ (w.ranks.ranked k.0 k.1).1 in
        elim (cases_lt k.0 (length seeds)) [
          | inl seed ↦
              let b = w.begins k.0 seed in
              inl (ap parent (sym k.2) ∙ (w.roots k.0 seed ∙ k.2), subst (λ z. linked g e z ≡ true) (sym b.1 ∙ k.2) (are.each (entry_at seeds k.0) (has-at seeds k.0 0 seed)).0)
          | inr later ↦
              let step = w.steps k.0 later k.1 in
              let falls : entry_at s.rank.items (parent v) < k.0 = subst (λ z. entry_at s.rank.items (parent z) < k.0) k.2 step.0 in
              let link : linked g (parent v) v ≡ true = subst (λ z. linked g (parent z) z ≡ true) k.2 step.1 in
              let there = w.ranks.placed (parent v) (linked_below g.nodes g.links (parent v) v graph link).0 (omega (arith, falls, k.1, few_ranked g.nodes zone s.order.items s.rank.items w.ranks)) in
              inr (subst (λ z. has s.order.items z ≡ true) there.1 (has-at s.order.items (entry_at s.rank.items (parent v)) 0 there.0), omega (arith, falls, rank_is), link)
        ]

-- ---- the path

-- the path so far begins with z and goes on over reached nodes of falling rank, and v is next
pub record Trailing (g : Network) (e : ℕ) (s : Swept) (z : ℕ) (path : List ℕ) (v : ℕ) : Type 0 where
  pub some : 1 ≤ length path
  pub starts : entry_at path 0 ≡ z
  pub over : (i : ℕ) → 1 ≤ i → i < length path → (has s.order.items (entry_at path i) ≡ true) × (entry_at s.rank.items v < entry_at s.rank.items (entry_at path i))
  pub falls : (i j : ℕ) → 1 ≤ i → i < j → j < length path → entry_at s.rank.items (entry_at path j) < entry_at s.rank.items (entry_at path i)
  pub steps : (i : ℕ) → suc i < length path → linked g (entry_at path i) (entry_at path (suc i)) ≡ true
  pub next : linked g (entry_at path (length path - 1)) v ≡ true
  pub here : has s.order.items v ≡ true

-- a step back to the parent
pub trailing_more : (g : Network) (e : ℕ) (s : Swept) (z : ℕ) (path : List ℕ) (v : ℕ) → LeadsBack g e s → (entry_at s.parent.items v ≡ v → ⊥) → Trailing g e s z path v → Trailing g e s z (path ++ v ∷ []) (entry_at s.parent.items v)
trailing_more g e s z path v leads other t = elim (leads.back v t.here) [
  | inl seed ↦ absurd (other seed.0)
  | inr b ↦ record {
    some = omega (arith, length_push path v);
    starts = at_before path v 0 t.some ∙ t.starts;
    over = λ i low l. elim (cases_lt i (length path)) [
      | inl lt ↦ rw (at_before path v i lt) (let o = t.over i low lt in (o.0, omega (arith, o.1, b.1)))
      | inr ge ↦ rw (at_last path v i (omega (arith, l, ge, length_push path v))) (t.here, b.1)
    ];
    falls = λ i j low lt l. elim (cases_lt j (length path)) [
      | inl before ↦ rw (at_before path v i (omega (arith, lt, before)), at_before path v j before) (t.falls i j low lt before)
      | inr ge ↦ rw (at_last path v j (omega (arith, l, ge, length_push path v)), at_before path v i (omega (arith, lt, l, length_push path v))) (t.over i low (omega (arith, lt, l, length_push path v))).1
    ];
    steps = λ i l. elim (cases_lt (suc i) (length path)) [
      | inl lt ↦ rw (at_before path v i (omega (arith, lt)), at_before path v (suc i) lt) (t.steps i lt)
      | inr ge ↦
          let last : i ≡ length path - 1 = omega (arith, l, ge, length_push path v) in
          rw (at_before path v i (omega (arith, l, length_push path v)), at_last path v (suc i) (omega (arith, l, ge, length_push path v))) (subst (λ k. linked g (entry_at path k) v ≡ true) (sym last) t.next)
    ];
    next =
        let last : length (path ++ v ∷ []) - 1 ≡ length path = omega (arith, length_push path v) in
        subst (λ k. linked g k (entry_at s.parent.items v) ≡ true) (sym (at_last path v (length (path ++ v ∷ []) - 1) last)) (linked_comm g (entry_at s.parent.items v) v b.2);
    here = b.0;
  }
]

-- a reached node is a node
pub reached_below : (g : Network) (e : ℕ) (s : Swept) (v : ℕ) → LeadsBack g e s → has s.order.items v ≡ true → v < g.nodes
reached_below g e s v leads h = let k = place_in s.order.items v h in subst (λ z. z < g.nodes) k.2 (leads.placed k.0 k.1).0

-- the parent that is read for a reached node
pub parent_read : (g : Network) (e : ℕ) (s : Swept) (v x : ℕ) → LeadsBack g e s → has s.order.items v ≡ true → x ≡ get_or s.parent.items v x → x ≡ entry_at s.parent.items v
parent_read g e s v x leads h at = get_or_read s.parent.items _ _ (omega (arith, reached_below g e s v leads h, leads.parents)) at 0

-- the rank falls to another parent
pub rank_less : (g : Network) (e : ℕ) (s : Swept) (v : ℕ) → LeadsBack g e s → has s.order.items v ≡ true → (entry_at s.parent.items v ≡ v → ⊥) → entry_at s.rank.items (entry_at s.parent.items v) < entry_at s.rank.items v
rank_less g e s v leads h other = elim (leads.back v h) [ inl seed ↦ absurd (other seed.0) | inr b ↦ b.1 ]

-- so it falls to a parent that is read and is another node
pub falls_to_read : (g : Network) (e : ℕ) (s : Swept) (v x y : ℕ) → LeadsBack g e s → has s.order.items v ≡ true → x ≡ get_or s.parent.items v x → y ≡ get_or s.parent.items v y → (x ≡ v → ⊥) → entry_at s.rank.items y < entry_at s.rank.items v
falls_to_read g e s v x y leads h test next other =
    subst (λ w. entry_at s.rank.items w < entry_at s.rank.items v) (sym (parent_read g e s v y leads h next)) (rank_less g e s v leads h (λ same. other (parent_read g e s v x leads h test ∙ same)))

-- at the first node
pub trailing_none : (g : Network) (e : ℕ) (s : Swept) (z v : ℕ) → linked g v z ≡ true → has s.order.items v ≡ true → Trailing g e s z (z ∷ []) v
trailing_none g e s z v l here = record {
  some = omega arith;
  starts = refl;
  over = λ i low lt. absurd (omega (arith, low, lt));
  falls = λ i j low lt l. absurd (omega (arith, low, lt, l));
  steps = λ i lt. absurd (omega (arith, lt));
  next = linked_comm g v z l;
  here = here;
}

-- how long the whole path is
pub whole_length : (e : ℕ) (path : List ℕ) (v : ℕ) → length ((path ++ v ∷ []) ++ e ∷ []) ≡ suc (suc (length path))
whole_length e path v = omega (arith, length_push path v, length_push (path ++ v ∷ []) e)

-- from a neighbour of e the path ends with e
module _ (g : Network) (e : ℕ) (s : Swept) (z : ℕ) (path : List ℕ) (v : ℕ) (leads : LeadsBack g e s) (root : entry_at s.parent.items v ≡ v) (t : Trailing g e s z path v) where
  link_e : linked g e v ≡ true
  link_e = elim (leads.back v t.here) [
    | inl seed ↦ seed.1
    | inr b ↦ absurd (let same : entry_at s.rank.items (entry_at s.parent.items v) ≡ entry_at s.rank.items v = ap (entry_at s.rank.items) root in omega (arith, b.1, same))
  ]

  -- the whole path
  abbrev pub whole : List ℕ
  whole = (path ++ v ∷ []) ++ e ∷ []

  at_path : (i : ℕ) → i < length path → entry_at whole i ≡ entry_at path i
  at_path i l = at_before (path ++ v ∷ []) e i (omega (arith, l, length_push path v)) ∙ at_before path v i l

  at_v : (i : ℕ) → i ≡ length path → entry_at whole i ≡ v
  at_v i same = at_before (path ++ v ∷ []) e i (omega (arith, same, length_push path v)) ∙ at_last path v i same

  at_e : (i : ℕ) → i ≡ suc (length path) → entry_at whole i ≡ e
  at_e i same = at_last (path ++ v ∷ []) e i (omega (arith, same, length_push path v))

  -- a node between the ends was reached
  pub inner_reached : (i : ℕ) → 1 ≤ i → i < suc (length path) → has s.order.items (entry_at whole i) ≡ true
  inner_reached i low l = elim (cases_lt i (length path)) [
    | inl lt ↦ rw (at_path i lt) (t.over i low lt).0
    | inr ge ↦ rw (at_v i (omega (arith, l, ge))) t.here
  ]

  rank_falls : (i j : ℕ) → 1 ≤ i → i < j → j < suc (length path) → entry_at s.rank.items (entry_at whole j) < entry_at s.rank.items (entry_at whole i)
  rank_falls i j low lt l = elim (cases_lt j (length path)) [
    | inl before ↦ rw (at_path j before, at_path i (omega (arith, lt, before))) (t.falls i j low lt before)
    | inr ge ↦ rw (at_v j (omega (arith, l, ge)), at_path i (omega (arith, lt, l))) (t.over i low (omega (arith, lt, l))).1
  ]

  -- it is an ear for old nodes that were not reached
  pub trail_ear : (old : ℕ → Bool) → old z ≡ true → old e ≡ true → z ≢ e → ((v : ℕ) → has s.order.items v ≡ true → old v ≡ false) → EarAt g old (entry_at whole) (suc (length path))
  trail_ear old zo eo differ new = record {
    inner_node = omega (arith, t.some);
    steps = λ i l. elim (cases_lt (suc i) (length path)) [
      | inl lt ↦ rw (at_path i (omega (arith, lt)), at_path (suc i) lt) (t.steps i lt)
      | inr ge ↦ elim (cases_eq (suc i) (length path)) [
        | inl at ↦
            let last : i ≡ length path - 1 = omega (arith, at) in
            rw (at_path i (omega (arith, at)), at_v (suc i) at) (subst (λ k. linked g (entry_at path k) v ≡ true) (sym last) t.next)
        | inr past ↦ rw (at_v i (omega (arith, ge, past, l)), at_e (suc i) (omega (arith, ge, past, l))) (linked_comm g e v link_e)
      ]
    ];
    distinct = λ i j lt le same. elim (cases_eq i 0) [
      | inl first ↦
          let zi : entry_at whole i ≡ z = ap (entry_at whole) first ∙ (at_path 0 t.some ∙ t.starts) in
          elim (cases_eq j (suc (length path))) [
            | inl last ↦ differ (sym zi ∙ (same ∙ at_e j last))
            | inr before ↦ both_ways (old (entry_at whole j)) (new (entry_at whole j) (inner_reached j (omega (arith, lt)) (omega (arith, le, before)))) (subst (λ k. old k ≡ true) (sym zi ∙ same) zo)
          ]
      | inr later ↦ elim (cases_eq j (suc (length path))) [
        | inl last ↦ both_ways (old (entry_at whole i)) (new (entry_at whole i) (inner_reached i (omega (arith, later)) (omega (arith, lt, last)))) (subst (λ k. old k ≡ true) (sym (same ∙ at_e j last)) eo)
        | inr before ↦
            let equal : entry_at s.rank.items (entry_at whole i) ≡ entry_at s.rank.items (entry_at whole j) = ap (entry_at s.rank.items) same in
            omega (arith, equal, rank_falls i j (omega (arith, later)) lt (omega (arith, le, before)))
      ]
    ];
    starts = subst (λ k. old k ≡ true) (sym (at_path 0 t.some ∙ t.starts)) zo;
    ends = subst (λ k. old k ≡ true) (sym (at_e (suc (length path)) refl)) eo;
    fresh = λ i low l. new (entry_at whole i) (inner_reached i (omega (arith, low)) l);
  }

-- ---- crossing

-- where a path must cross, some reached node has another old neighbour
pub must_cross : (g : Network) (old zone : ℕ → Bool) (e : ℕ) (s : Swept) → Crosses g old zone e → IsReached g zone e s
    → ((k w : ℕ) → k < length s.order.items → linked g (entry_at s.order.items k) w ≡ true → old w ≡ true → w ≡ e) → ⊥
must_cross g old zone e s crosses r none = crosses (has s.order.items) r.enters r.closed
    (λ v w zv h l o. let k = place_in s.order.items v h in none k.0 w k.1 (subst (λ z. linked g z w ≡ true) (sym k.2) l) o)

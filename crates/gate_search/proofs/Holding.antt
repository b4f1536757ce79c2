-- Nodes on a way between two held nodes may be held.
use Rattle.std.proofs.Common.{◌≡◌, ◌≢◌, ℕ, ◌+◌, ◌<◌, ◌≤◌, ◌⊎◌, Bool, true, false, List, length, get_or, set, IsTrue, sym, ap, subst, ◌∙◌, inl, inr, arith, get_or-set_same, get_or-set_other}
use Rattle.std.proofs.lemmas.Bool.{cases_eq, cases_lt, cases_Bool, both_ways}
use Rattle.std.proofs.lemmas.List.{get_or_default}
use Rattle.tomo_base.specs.Network.{Network, linked, IsGraph}
use Rattle.tomo_base.specs.Sets.{without, Within}
use Rattle.tomo_base.specs.Walks.{Reaches}
use Rattle.tomo_base.specs.Search.{mark_of, entry_at}
use Rattle.tomo_base.specs.Table.{AreHops}
use Rattle.tomo_base.specs.declared.graph.Hop.{Hop}
use Rattle.tomo_base.specs.Parting.{AreJoinedIn}
use Rattle.tomo_base.specs.Sets.{count}
use Rattle.tomo_base.proofs.Counts.{count-less}
use Rattle.tomo_base.proofs.Links.{linked_below, linked_comm}
use Rattle.tomo_base.proofs.Walks.{Reaches-within, Reaches_comm}
use Rattle.tomo_base.proofs.Parting.{without-from, joined-trans, joined-step}
use Rattle.tomo_base.proofs.Reaching.{Reaches-joined}
use Rattle.gate_search.specs.Gates.{IsGate}
use Rattle.gate_search.specs.Trees.{IsRanked}
use Rattle.gate_search.specs.Stops.{IsGateSearch}
use Rattle.gate_search.specs.declared.search.GateSearch.{GateSearch}
use Rattle.tomo_base.proofs.Rows.{hop_linked}
use Rattle.gate_search.proofs.Marks.{still_gone}
use Rattle.gate_search.proofs.Trees.{ranked_at, free_in, ranked_free, is_tree, parent_linked, first_in, ranked_in}
use Rattle.gate_search.specs.Advancing.{IsGrown, HasTwoGates}
use Rattle.tomo_base.proofs.Reached.{ranked_below, placed_free, way_up}

-- a node with two ways to held nodes may be held: a link to one, and a walk to another that does not meet that one
pub held_more : (g : Network) (base : ℕ → Bool) (root : ℕ) (w : ℕ → Bool) (free : List Bool) (v foot a x : ℕ) → v < length free → IsGrown g base root w (mark_of free) → IsTrue (w v) → IsTrue (linked g v foot) → IsTrue (w foot) → mark_of free foot ≡ false
    → IsTrue (w a) → mark_of free a ≡ false → foot ≢ a → IsTrue (linked g x a) → IsTrue (base x) → (x ≢ foot) ⊎ (v ≡ x) → ((c : ℕ) → c ≡ foot → v ≢ c → Reaches g (without base c) x v)
    → IsGrown g base root w (mark_of (set free v false))
held_more g base root w free v foot a x room h v_in link foot_in foot_held a_in a_held ne start x_base off walk = record {
  in_base = h.in_base;
  root_in = h.root_in;
  root_held = kept root h.root_held;
  free_in = λ u t. h.free_in u (elim (cases_eq u v) [
    | inl same ↦ absurd (both_ways (mark_of (set free v false) u) (ap (mark_of (set free v false)) same ∙ get_or-set_same free v false false room) t)
    | inr other ↦ sym (get_or-set_other free v u false false other) ∙ t
  ]);
  near = λ u l t. kept u (h.near u l t);
  joined = λ c u rc uc t f. elim (cases_eq u v) [
    | inr other ↦ h.joined c u rc uc t (sym (get_or-set_other free v u false false other) ∙ f)
    | inl same ↦ subst (λ z. AreJoinedIn g (without base c) root z) (sym same) (here c rc (λ e. uc (same ∙ e)))
  ];
}
  where
    kept : (u : ℕ) → mark_of free u ≡ false → mark_of (set free v false) u ≡ false
    kept u f = elim (cases_eq u v) [
      | inl same ↦ ap (mark_of (set free v false)) same ∙ get_or-set_same free v false false room
      | inr other ↦ get_or-set_other free v u false false other ∙ f
    ]

    here : (c : ℕ) → c ≢ root → v ≢ c → AreJoinedIn g (without base c) root v
    here c rc vc = elim (cases_eq foot c) [
      | inr other ↦ joined-trans g (without base c) root foot v (h.joined c foot rc other foot_in foot_held) (joined-step g (without base c) foot v (linked_comm g v foot link) (without-from base c v (h.in_base v v_in) vc))
      | inl same ↦
          let ac : a ≢ c = λ e. ne (same ∙ sym e) in
          let xc : x ≢ c = λ e. elim off [ inl o ↦ o (e ∙ sym same) | inr o ↦ vc (o ∙ e) ] in
          joined-trans g (without base c) root a v (h.joined c a rc ac a_in a_held)
          (joined-trans g (without base c) a x v (joined-step g (without base c) a x (linked_comm g x a start) (without-from base c x x_base xc))
          (Reaches-joined g (without base c) x v (walk c (sym same) vc)))
    ]

-- what is held while the nodes on the way up from y to the start are held: the node at hand has a link to a held node
pub record IsOnWay (g : Network) (base : ℕ → Bool) (root : ℕ) (w : ℕ → Bool) (free₀ : List Bool) (s : GateSearch) (first : ℕ) (free : List Bool) (v : ℕ) : Type 0 where
  pub grown : IsGrown g base root w (mark_of free)
  pub inside : Within (mark_of free₀) w
  pub still : (u : ℕ) → mark_of free₀ u ≡ false → mark_of free u ≡ false
  pub foot : ℕ
  pub foot_linked : IsTrue (linked g v foot)
  pub foot_in : IsTrue (w foot)
  pub foot_held : mark_of free foot ≡ false
  pub foot_other : foot ≢ first
  pub foot_above : entry_at s.found.rank.items v ≤ entry_at s.found.rank.items foot

module _ (g : Network) (free₀ : List Bool) (s : GateSearch) (graph : IsGraph g) (is : IsGateSearch g free₀ s) where
  -- the start has the rank 0
  pub start_ranked : IsRanked s.found s.start × (entry_at s.found.rank.items s.start ≡ 0)
  start_ranked =
      let first = is.search.begins 0 (omega arith) in
      let at = is.search.ranks.ranked 0 first.0 in
      (ranked_in g free₀ s.start s.head s.found graph is.search s.start (first_in g free₀ s.start s.head s.found graph is.search), subst (λ z. entry_at s.found.rank.items z ≡ 0) first.1 at.1)

  -- a node of the rank 0 is the start
  pub only_start : (v : ℕ) → IsRanked s.found v → entry_at s.found.rank.items v ≡ 0 → v ≡ s.start
  only_start v r zero = (is_tree g free₀ s.start s.head s.found graph is.search).once v s.start r start_ranked.0 (zero ∙ sym start_ranked.1)

  -- where the way has come to the start, fewer nodes are free
  pub way_fewer : (v : ℕ) (free : List Bool) → IsRanked s.found v → length free ≡ g.nodes → v ≡ s.start → ((u : ℕ) → mark_of free₀ u ≡ false → mark_of free u ≡ false)
      → count g.nodes (mark_of (set free v false)) < count g.nodes (mark_of free₀)
  way_fewer v free ranked size same passed =
      let node = (ranked_at g free₀ s.start s.head s.found graph is.search v ranked).0 in
      let room : v < length free = omega (arith, node, size) in
      let start_free : mark_of free₀ s.start ≡ true = free_in g free₀ s.start s.head s.found graph is.search s.start (first_in g free₀ s.start s.head s.found graph is.search) in
      count-less g.nodes (mark_of (set free v false)) (mark_of free₀) v node (get_or-set_same free v false false room) (subst (λ z. mark_of free₀ z ≡ true) (sym same) start_free)
      (λ u l t. elim (cases_Bool (mark_of free₀ u)) [
        | inl k ↦ k
        | inr f ↦ absurd (both_ways (mark_of (set free v false) u) (still_gone free v u room (passed u f)) t)
      ])

  -- a node that is not free has no rank
  no_rank : (v : ℕ) → v < g.nodes → mark_of free₀ v ≡ false → g.nodes ≤ entry_at s.found.rank.items v
  no_rank v l out = elim (cases_lt (entry_at s.found.rank.items v) g.nodes) [
    | inr ge ↦ ge
    | inl r ↦ absurd (both_ways (mark_of free₀ v) out (ranked_free g free₀ s.start s.head s.found graph is.search v (omega (arith, l, is.search.parents), omega (arith, r, is.search.parents))).1)
  ]

  module _ (base : ℕ → Bool) (root : ℕ) (w : ℕ → Bool) where
    -- at the other gate
    pub way_begins : (y : ℕ) → (way : HasTwoGates g w free₀ s y) → IsGrown g base root w (mark_of free₀) → IsOnWay g base root w free₀ s way.first free₀ y
    way_begins y way h =
        let outer = (linked_below g.nodes g.links y way.second graph way.other_gate.linked).1 in
        record {
          grown = h;
          inside = h.free_in;
          still = λ u f. f;
          foot = way.second;
          foot_linked = way.other_gate.linked;
          foot_in = way.other_gate.in_set;
          foot_held = way.other_gate.not_free;
          foot_other = way.other_gate.not_first;
          foot_above = omega (arith, no_rank way.second outer way.other_gate.not_free, way.ranked.1, is.search.parents);
        }

    -- the node at hand may be held
    pub way_holds : (first : ℕ) → IsGate g w (mark_of free₀) s.start g.nodes g.nodes first → (free : List Bool) (v : ℕ) → v < length free → IsRanked s.found v → IsOnWay g base root w free₀ s first free v → IsGrown g base root w (mark_of (set free v false))
    way_holds first gate free v room ranked on =
        let n = g.nodes in
        let rank = entry_at s.found.rank.items in
        let at = ranked_at g free₀ s.start s.head s.found graph is.search v ranked in
        let few : rank v ≤ n = omega (arith, ranked.1, is.search.parents) in
        let low : ℕ → Bool = ranked_below n s.found.rank.items (rank v) in
        let up : Reaches g low v s.start = subst (λ o. Reaches g low o s.start) at.2 (way_up g free₀ s.start s.head s.found.order.items s.found.parent.items s.found.rank.items graph is.search (rank v + 1) (rank v) (omega arith) at.1) in
        let lower : (z : ℕ) → IsTrue (low z) → rank z < rank v = λ z t. (placed_free g free₀ s.start s.head s.found.order.items s.found.parent.items s.found.rank.items graph is.search z (rank v) few t).1 in
        let is_free = (ranked_free g free₀ s.start s.head s.found graph is.search v ranked).1 in
        let in_base : (z : ℕ) → mark_of free₀ z ≡ true → IsTrue (base z) = λ z t. on.grown.in_base z (on.inside z t) in
        held_more g base root w free v on.foot first s.start room on.grown (on.inside v is_free) on.foot_linked on.foot_in on.foot_held
        gate.in_set (on.still first gate.not_free) on.foot_other gate.linked (in_base s.start (free_in g free₀ s.start s.head s.found graph is.search s.start (first_in g free₀ s.start s.head s.found graph is.search)))
        (elim (cases_eq v s.start) [
          | inl same ↦ inr same
          | inr other ↦ inl (λ e. other (only_start v ranked (let top : rank s.start ≡ rank on.foot = ap rank e in omega (arith, start_ranked.1, top, on.foot_above))))
        ])
        (λ c same vc. Reaches_comm g (without base c) v s.start (without-from base c v (in_base v is_free) vc)
        (Reaches-within g low (without base c) v s.start (λ z t. without-from base c z (in_base z (placed_free g free₀ s.start s.head s.found.order.items s.found.parent.items s.found.rank.items graph is.search z (rank v) few t).4) (λ e.
        let equal : rank z ≡ rank on.foot = ap rank (e ∙ same) in omega (arith, lower z t, on.foot_above, equal))) up))

    -- then its parent is at hand
    pub way_on : (first : ℕ) → IsGate g w (mark_of free₀) s.start g.nodes g.nodes first → (free : List Bool) (v : ℕ) → v < length free → IsRanked s.found v → v ≢ s.start → IsOnWay g base root w free₀ s first free v
        → IsOnWay g base root w free₀ s first (set free v false) (entry_at s.found.parent.items v)
    way_on first gate free v room ranked other on =
        let some : 1 ≤ entry_at s.found.rank.items v = elim (cases_lt 0 (entry_at s.found.rank.items v)) [ inl l ↦ omega (arith, l) | inr none ↦ absurd (other (only_start v ranked (omega (arith, none)))) ] in
        let up = (is_tree g free₀ s.start s.head s.found graph is.search).up v ranked some in
        let is_free = (ranked_free g free₀ s.start s.head s.found graph is.search v ranked).1 in
        record {
          grown = way_holds first gate free v room ranked on;
          inside = on.inside;
          still = λ u f. elim (cases_eq u v) [
            | inl same ↦ ap (mark_of (set free v false)) same ∙ get_or-set_same free v false false room
            | inr ne ↦ get_or-set_other free v u false false ne ∙ on.still u f
          ];
          foot = v;
          foot_linked = parent_linked g free₀ s.start s.head s.found graph is.search v ranked some;
          foot_in = on.inside v is_free;
          foot_held = get_or-set_same free v false false room;
          foot_other = λ e. both_ways (mark_of free₀ first) gate.not_free (subst (λ z. mark_of free₀ z ≡ true) e is_free);
          foot_above = omega (arith, up.1);
        }

-- at first the root and its neighbours are held
pub held_first : (g : Network) (base : ℕ → Bool) (root : ℕ) (w free : ℕ → Bool) → Within w base → IsTrue (w root) → free root ≡ false → ((v : ℕ) → IsTrue (free v) → IsTrue (w v)) → ((v : ℕ) → IsTrue (linked g root v) → free v ≡ false)
    → ((v : ℕ) → IsTrue (w v) → free v ≡ false → (v ≡ root) ⊎ IsTrue (linked g root v)) → IsGrown g base root w free
held_first g base root w free in_base root_in root_held inside near only = record {
  in_base = in_base;
  root_in = root_in;
  root_held = root_held;
  free_in = inside;
  near = λ v l t. near v l;
  joined = λ c v rc vc t f. elim (only v t f) [
    | inl same ↦ subst (λ z. AreJoinedIn g (without base c) root z) (sym same) (λ X h x. x)
    | inr l ↦ joined-step g (without base c) root v l (without-from base c v (in_base v t) vc)
  ];
}

-- one neighbour of the root more is free no longer
pub hop_freed : (g : Network) (root : ℕ) (nodes : List Bool) (hops : List Hop) (free : List Bool) (i : ℕ) (e : Hop) → AreHops g.links root hops → i < length hops → (get_or hops i e).node < length free → mark_of free root ≡ false
    → ((v : ℕ) → mark_of free v ≡ true → mark_of nodes v ≡ true) → ((k : ℕ) (d : Hop) → k < i → mark_of free (get_or hops k d).node ≡ false)
    → ((v : ℕ) → mark_of nodes v ≡ true → mark_of free v ≡ false → (v ≡ root) ⊎ IsTrue (linked g root v))
    → let next = set free (get_or hops i e).node false in (mark_of next root ≡ false) × ((v : ℕ) → mark_of next v ≡ true → mark_of nodes v ≡ true)
    × ((k : ℕ) (d : Hop) → k < i + 1 → mark_of next (get_or hops k d).node ≡ false) × ((v : ℕ) → mark_of nodes v ≡ true → mark_of next v ≡ false → (v ≡ root) ⊎ IsTrue (linked g root v))
hop_freed g root nodes hops free i e are l room here inside near only =
    let u = (get_or hops i e).node in
    let new : mark_of (set free u false) u ≡ false = get_or-set_same free u false false room in
    let kept : (v : ℕ) → mark_of free v ≡ false → mark_of (set free u false) v ≡ false = λ v f. still_gone free u v room f in (
      kept root here,
      (λ v t. inside v (elim (cases_eq v u) [
        | inl same ↦ absurd (both_ways (mark_of (set free u false) v) (ap (mark_of (set free u false)) same ∙ new) t)
        | inr other ↦ sym (get_or-set_other free u v false false other) ∙ t
      ])),
      (λ k d m. elim (cases_eq k i) [
        | inl same ↦ subst (λ z. mark_of (set free u false) (get_or hops z d).node ≡ false) (sym same) (subst (λ (h : Hop). mark_of (set free u false) h.node ≡ false) (get_or_default hops i e d l) new)
        | inr other ↦ kept (get_or hops k d).node (near k d (omega (arith, m, other)))
      ]),
      (λ v t f. elim (cases_eq v u) [
        | inl same ↦ inr (subst (λ z. IsTrue (linked g root z)) (sym same) (hop_linked g root hops i e are l))
        | inr other ↦ only v t (sym (get_or-set_other free u v false false other) ∙ f)
      ]),
    )

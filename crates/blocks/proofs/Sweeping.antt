-- What one search without a node of a set tells: the node cuts the set into two sides, or the rest is connected.
use Rattle.std.proofs.Common.{◌≡◌, ◌≢◌, ℕ, ◌<◌, ◌≤◌, ◌⊎◌, Bool, true, false, not, ◌||◌, ◌==◌, nat_lt, List, [], ◌∷◌, length, get_or, take, IsTrue, refl, sym, ap, ◌∙◌, inl, inr, arith, subst, lt-ltb, le-ltb}
use Rattle.std.specs.List.{filter}
use Rattle.std.specs.List.Sorted.{IsStrictlyIncreasing}
use Rattle.std.proofs.lemmas.Bool.{cases_eq, cases_lt, cases_Bool, or_cases, or_left, or_right, and_parts, and_from, both_ways, eqb-true, eq-eqb, ne_eqb, false_from_ne_true, not-true, ltb-true}
use Rattle.std.proofs.lemmas.List.{take_all}
use Rattle.tomo_base.specs.Network.{Network, linked, IsGraph}
use Rattle.tomo_base.specs.Sets.{has, without}
use Rattle.tomo_base.specs.Walks.{IsConnectedIn}
use Rattle.tomo_base.specs.Search.{mark_of, entry_at, IsSearch}
use Rattle.tomo_base.specs.SetLists.{IsSetBelow}
use Rattle.tomo_base.proofs.Ascending.{All-has, has-at}
use Rattle.tomo_base.proofs.Parting.{without-from, without-parts}
use Rattle.tomo_base.proofs.Reached.{search_reaches}
use Rattle.tomo_base.proofs.Walks.{connected_by, connected_inside}
use Rattle.blocks.specs.Sides.{AreSides}
use Rattle.blocks.proofs.Filtering.{has-filter, IsSetBelow-filter, not_alone, another}

-- the cut, and the nodes that were reached
abbrev pub is_near : ℕ → List ℕ → ℕ → ℕ → Bool
is_near n rank cut v = (v == cut) || nat_lt (entry_at rank v) n

-- the cut, and the nodes that were not
abbrev pub is_far : ℕ → List ℕ → ℕ → ℕ → Bool
is_far n rank cut v = (v == cut) || not (nat_lt (entry_at rank v) n)

-- how the cut, a node that was reached and one that was not pass the tests
pub cut_passes : (n : ℕ) (rank : List ℕ) (cut v : ℕ) → v ≡ cut → (is_near n rank cut v ≡ true) × (is_far n rank cut v ≡ true)
cut_passes n rank cut v e = (or_left (v == cut) (nat_lt (entry_at rank v) n) (eq-eqb v cut e), or_left (v == cut) (not (nat_lt (entry_at rank v) n)) (eq-eqb v cut e))

pub reached_passes : (n : ℕ) (rank : List ℕ) (cut v : ℕ) → v ≢ cut → entry_at rank v < n → (is_near n rank cut v ≡ true) × (is_far n rank cut v ≡ false)
reached_passes n rank cut v ne l = (or_right (v == cut) (nat_lt (entry_at rank v) n) (lt-ltb (entry_at rank v) n l), rw (ne_eqb v cut ne, lt-ltb (entry_at rank v) n l) refl)

pub unreached_passes : (n : ℕ) (rank : List ℕ) (cut v : ℕ) → v ≢ cut → n ≤ entry_at rank v → (is_near n rank cut v ≡ false) × (is_far n rank cut v ≡ true)
unreached_passes n rank cut v ne l = (rw (ne_eqb v cut ne, le-ltb (entry_at rank v) n l) refl, or_right (v == cut) (not (nat_lt (entry_at rank v) n)) (ap not (le-ltb (entry_at rank v) n l)))

-- the first of two nodes that is another than the cut
pub other_first : (nodes : List ℕ) (cut start : ℕ) → IsStrictlyIncreasing nodes → 2 ≤ length nodes → ((start ≡ get_or nodes 1 0) × (get_or nodes 0 0 ≡ cut)) ⊎ ((start ≡ get_or nodes 0 0) × (get_or nodes 0 0 ≢ cut))
    → IsTrue (without (has nodes) cut start)
other_first nodes cut start up two which = elim which [
  | inl e ↦
      let rises : get_or nodes 0 0 < get_or nodes 1 0 = up 0 (omega (arith, two)) in
      without-from (has nodes) cut start (subst (λ z. IsTrue (has nodes z)) (sym e.0) (has-at nodes 1 0 (omega (arith, two)))) (λ s. omega (arith, rises, e.0, e.1, s))
  | inr e ↦ without-from (has nodes) cut start (subst (λ z. IsTrue (has nodes z)) (sym e.0) (has-at nodes 0 0 (omega (arith, two)))) (λ s. e.1 (sym e.0 ∙ s))
]

module _ (g : Network) (nodes : List ℕ) (cut start : ℕ) (free : List Bool) (order parent rank : List ℕ) (graph : IsGraph g) (is : IsSetBelow g.nodes nodes)
    (at : IsTrue (has nodes cut)) (marks : (v : ℕ) → mark_of free v ≡ without (has nodes) cut v) (s : IsSearch g free (start ∷ []) (length order) order parent rank)
    (begins : IsTrue (without (has nodes) cut start)) where
  abbrev near : List ℕ
  near = filter (is_near g.nodes rank cut) nodes

  abbrev far : List ℕ
  far = filter (is_far g.nodes rank cut) nodes

  -- a node of the set that passes
  kept : (p : ℕ → Bool) (v : ℕ) → IsTrue (has nodes v) → p v ≡ true → IsTrue (has (filter p nodes) v)
  kept p v h e = has-filter p nodes v ∙ and_from (has nodes v) (p v) h e

  -- what passes
  parts : (p : ℕ → Bool) (v : ℕ) → IsTrue (has (filter p nodes) v) → IsTrue (has nodes v) × (p v ≡ true)
  parts p v h = and_parts (has nodes v) (p v) (sym (has-filter p nodes v) ∙ h)

  -- a node of the near side other than the cut was reached
  near_reached : (v : ℕ) → IsTrue (has near v) → v ≢ cut → entry_at rank v < g.nodes
  near_reached v h ne = elim (or_cases (v == cut) (nat_lt (entry_at rank v) g.nodes) (parts (is_near g.nodes rank cut) v h).1) [
    | inl e ↦ absurd (ne (eqb-true v cut e))
    | inr e ↦ ltb-true (entry_at rank v) g.nodes e
  ]

  -- a node of the far side other than the cut was not
  far_unreached : (v : ℕ) → IsTrue (has far v) → v ≢ cut → g.nodes ≤ entry_at rank v
  far_unreached v h ne = elim (or_cases (v == cut) (not (nat_lt (entry_at rank v) g.nodes)) (parts (is_far g.nodes rank cut) v h).1) [
    | inl e ↦ absurd (ne (eqb-true v cut e))
    | inr e ↦ elim (cases_lt (entry_at rank v) g.nodes) [ inl l ↦ absurd (both_ways (nat_lt (entry_at rank v) g.nodes) (not-true (nat_lt (entry_at rank v) g.nodes) e) (lt-ltb (entry_at rank v) g.nodes l)) | inr ge ↦ ge ]
  ]

  -- the start was reached
  start_reached : entry_at rank start < g.nodes
  start_reached =
      let first = s.begins 0 (omega arith) in
      let placed = s.ranks.ranked 0 first.0 in
      let place : entry_at rank start ≡ 0 = subst (λ z. entry_at rank z ≡ 0) first.1 placed.1 in
      let node : start < g.nodes = subst (λ z. z < g.nodes) first.1 placed.0 in
      omega (arith, place, node)

  -- a node of the set is a node
  is_node : (v : ℕ) → IsTrue (has nodes v) → v < g.nodes
  is_node v h = All-has (λ v. v < g.nodes) nodes is.below v h

  -- the two sides
  pub sides_of : length far ≢ 1 → AreSides g nodes cut near far
  sides_of more = record {
    cut_in = at;
    near_set = IsSetBelow-filter g.nodes (is_near g.nodes rank cut) nodes is;
    far_set = IsSetBelow-filter g.nodes (is_far g.nodes rank cut) nodes is;
    near_in = λ v h. (parts (is_near g.nodes rank cut) v h).0;
    far_in = λ v h. (parts (is_far g.nodes rank cut) v h).0;
    cover = λ v h. elim (cases_Bool (nat_lt (entry_at rank v) g.nodes)) [
      | inl e ↦ inl (kept (is_near g.nodes rank cut) v h (or_right (v == cut) (nat_lt (entry_at rank v) g.nodes) e))
      | inr e ↦ inr (kept (is_far g.nodes rank cut) v h (or_right (v == cut) (not (nat_lt (entry_at rank v) g.nodes)) (ap not e)))
    ];
    near_cut = kept (is_near g.nodes rank cut) cut at (or_left (cut == cut) (nat_lt (entry_at rank cut) g.nodes) (eq-eqb cut cut refl));
    far_cut = kept (is_far g.nodes rank cut) cut at (or_left (cut == cut) (not (nat_lt (entry_at rank cut) g.nodes)) (eq-eqb cut cut refl));
    shared = λ v a b. elim (cases_eq v cut) [ inl e ↦ e | inr ne ↦ absurd (omega (arith, near_reached v a ne, far_unreached v b ne)) ];
    parted = λ u v a ua b vb. false_from_ne_true (linked g u v) (λ link.
        let ranked = near_reached u a ua in
        let placed = s.ranks.placed u (is_node u (parts (is_near g.nodes rank cut) u a).0) ranked in
        let there : entry_at rank v < g.nodes = s.closed (entry_at rank u) v placed.0 (subst (λ z. IsTrue (linked g z v)) (sym placed.1) link)
        (marks v ∙ without-from (has nodes) cut v (parts (is_far g.nodes rank cut) v b).0 vb) in
        omega (arith, there, far_unreached v b vb));
    near_more = (
      start,
      kept (is_near g.nodes rank cut) start (without-parts (has nodes) cut start begins).0 (or_right (start == cut) (nat_lt (entry_at rank start) g.nodes) (lt-ltb (entry_at rank start) g.nodes start_reached)),
      (without-parts (has nodes) cut start begins).1,
    );
    far_more = another far cut (IsSetBelow-filter g.nodes (is_far g.nodes rank cut) nodes is).ascending
        (kept (is_far g.nodes rank cut) cut at (or_left (cut == cut) (not (nat_lt (entry_at rank cut) g.nodes)) (eq-eqb cut cut refl))) more;
  }

  -- the rest is connected
  pub rest_connected : length far ≡ 1 → IsConnectedIn g (without (has nodes) cut)
  rest_connected one =
      let all : (v : ℕ) → IsTrue (without (has nodes) cut v) → entry_at rank v < g.nodes = λ v h.
      let p = without-parts (has nodes) cut v h in
      elim (cases_lt (entry_at rank v) g.nodes) [
        | inl l ↦ l
        | inr ge ↦ absurd (not_alone far v cut
            (kept (is_far g.nodes rank cut) v p.0 (or_right (v == cut) (not (nat_lt (entry_at rank v) g.nodes)) (ap not (le-ltb (entry_at rank v) g.nodes ge))))
            (kept (is_far g.nodes rank cut) cut at (or_left (cut == cut) (not (nat_lt (entry_at rank cut) g.nodes)) (eq-eqb cut cut refl))) p.1 one)
      ] in
      connected_inside g (mark_of free) (without (has nodes) cut) graph (λ v l h. sym (marks v) ∙ h) (λ v l h. marks v ∙ h)
      (connected_by g (mark_of free) start (marks start ∙ begins) (λ v l h.
      search_reaches g free start (length order) order parent rank graph s v l (all v (sym (marks v) ∙ h))))

  -- the same for the lists that a loop over all nodes of the set has made
  pub sides_is : (n i : ℕ) (near_list far_list : List ℕ) → n ≡ g.nodes → length nodes ≤ i → near_list ≡ filter (is_near n rank cut) (take i nodes) → far_list ≡ filter (is_far n rank cut) (take i nodes)
      → length far_list ≢ 1 → AreSides g nodes cut near_list far_list
  sides_is n i near_list far_list same all nears fars more =
      let nears' : near_list ≡ near = nears ∙ (ap (λ xs. filter (is_near n rank cut) xs) (take_all i nodes all) ∙ ap (λ m. filter (is_near m rank cut) nodes) same) in
      let fars' : far_list ≡ far = fars ∙ (ap (λ xs. filter (is_far n rank cut) xs) (take_all i nodes all) ∙ ap (λ m. filter (is_far m rank cut) nodes) same) in
      rw (nears', fars') (sides_of (λ one. more (ap length fars' ∙ one)))

  pub rest_is : (n i : ℕ) (far_list : List ℕ) → n ≡ g.nodes → length nodes ≤ i → far_list ≡ filter (is_far n rank cut) (take i nodes) → length far_list ≡ 1 → IsConnectedIn g (without (has nodes) cut)
  rest_is n i far_list same all fars one =
      let fars' : far_list ≡ far = fars ∙ (ap (λ xs. filter (is_far n rank cut) xs) (take_all i nodes all) ∙ ap (λ m. filter (is_far m rank cut) nodes) same) in
      rest_connected (sym (ap length fars') ∙ one)

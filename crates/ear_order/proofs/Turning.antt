-- The loop of the search for the next ear: what each turn keeps, and why the part of u grows.
use Rattle.std.proofs.Common.{◌≡◌, ◌≢◌, ◌⊎◌, ℕ, ◌+◌, ◌-◌, ◌<◌, ◌≤◌, Bool, true, false, not, ◌&&◌, ◌||◌, ◌==◌, cond, List, [], ◌∷◌, ◌++◌, length, get_or, set, take, All, get_or-set_same, get_or-set_other, refl, sym, subst, ap, ◌∙◌, inl, inr, arith}
use Rattle.std.proofs.lemmas.Bool.{cases_Bool, cases_eq, both_ways, and_parts, and_from, or_cases, or_left, or_right, not-true, not_from_false, false_from_ne_true, eq-eqb, eqb-true}
use Rattle.std.proofs.lemmas.List.{take_more, get_or_default, get_or_read}
use Rattle.tomo_base.specs.declared.graph.Hop.{Hop}
use Rattle.tomo_base.specs.Network.{Network, linked, IsGraph}
use Rattle.tomo_base.specs.Sets.{has, count, complement}
use Rattle.tomo_base.specs.Table.{AreHops}
use Rattle.tomo_base.specs.Search.{mark_of, entry_at}
use Rattle.tomo_base.proofs.Counts.{count-less}
use Rattle.tomo_base.proofs.Ascending.{place_in, All-from_has}
use Rattle.ear_order.specs.Ears.{IsEar, with_ear, LeavesConnected}
use Rattle.ear_order.specs.Turns.{between, border, IsLeft, AreLeft, Round, IsTurn, IsBetter, IsClear, IsBeyond, IsFreePart}
use Rattle.ear_order.proofs.Spreading.{spreads, connected_same, touch_from, touch_gives}
use Rattle.ear_order.proofs.Reaching.{has-push}
use Rattle.tomo_base.proofs.Rows.{hop_linked, linked_hop}
use Rattle.tomo_base.proofs.Marks.{marked_below}
use Rattle.ear_order.proofs.Places.{run_at, run_gives}
use Rattle.ear_order.proofs.Lists.{between_has, has_between, between_new}
use Rattle.ear_order.proofs.Spots.{ear_below}
use Rattle.ear_order.proofs.Rounds.{border_parts, border_from, grows, goes_on}

-- ---- marks that are cleared

-- the marks without v and the neighbours so far
pub record Clearing (v : ℕ) (before : ℕ → Bool) (hops : List Hop) (i : ℕ) (after : ℕ → Bool) : Type 0 where
  pub kept : (w : ℕ) → after w ≡ true → (before w ≡ true) × (w ≢ v) × ((k : ℕ) (d : Hop) → k < i → (get_or hops k d).node ≢ w)
  pub rest : (w : ℕ) → before w ≡ true → w ≢ v → ((k : ℕ) (d : Hop) → k < i → (get_or hops k d).node ≢ w) → after w ≡ true

-- without v
pub clearing_none : (marks : List Bool) (v : ℕ) (hops : List Hop) → v < length marks → Clearing v (mark_of marks) hops 0 (mark_of (set marks v false))
clearing_none marks v hops l = record {
  kept = λ w h. elim (cases_eq w v) [
    | inl same ↦ absurd (both_ways (mark_of (set marks v false) w) (ap (mark_of (set marks v false)) same ∙ get_or-set_same marks v false false l) h)
    | inr other ↦ (sym (get_or-set_other marks v w false false other) ∙ h, other, λ k d lt. absurd (omega arith))
  ];
  rest = λ w h other none. get_or-set_other marks v w false false other ∙ h;
}

-- without one neighbour more
pub clearing_more : (before : ℕ → Bool) (marks : List Bool) (v x : ℕ) (hops : List Hop) (i : ℕ) (e : Hop) → i < length hops → x ≡ (get_or hops i e).node → x < length marks → Clearing v before hops i (mark_of marks) → Clearing v before hops (i + 1) (mark_of (set marks x false))
clearing_more before marks v x hops i e l is below c = record {
  kept = λ w h. elim (cases_eq w x) [
    | inl same ↦ absurd (both_ways (mark_of (set marks x false) w) (ap (mark_of (set marks x false)) same ∙ get_or-set_same marks x false false below) h)
    | inr other ↦
        let old = c.kept w (sym (get_or-set_other marks x w false false other) ∙ h) in (
          old.0,
          old.1,
          λ k d lt at. elim (cases_eq k i) [
            | inl same ↦ other (sym at ∙ (ap (λ (z : Hop). z.node) (ap (λ z. get_or hops z d) same ∙ get_or_default hops i d e l) ∙ sym is))
            | inr before_i ↦ old.2 k d (omega arith) at
          ],
        )
  ];
  rest = λ w h other none.
      let apart : w ≢ x = λ same. none i e (omega arith) (sym is ∙ sym same) in
      get_or-set_other marks x w false false apart ∙ c.rest w h other (λ k d lt. none k d (omega arith));
}

-- without all neighbours
pub clearing_done : (g : Network) (v : ℕ) (before after : ℕ → Bool) (hops : List Hop) (i : ℕ) → AreHops g.links v hops → length hops ≤ i → i ≤ length hops → Clearing v before hops i after → IsClear g v before after
clearing_done g v before after hops i are all within c = record {
  kept = λ w h.
      let old = c.kept w h in
      (old.0, old.1, false_from_ne_true (linked g v w) (λ l. let k = linked_hop g v w hops are l in old.2 k.0 (record { node = 0; link = 0 }) (omega (arith, k.1, all)) (k.2 (record { node = 0; link = 0 }))));
  rest = λ w h other none. c.rest w h other (λ k d lt at. both_ways (linked g v w) none (subst (λ z. linked g v z ≡ true) at (hop_linked g v hops k d are (omega (arith, lt, within)))));
}

-- ---- what lies beyond the part

-- before the first node
pub beyond_none : (g : Network) (before : ℕ → Bool) → IsBeyond g before (has []) before
unfolding has
beyond_none g before = record { kept = λ w h. (h, λ v no. absurd (both_ways false refl no)); rest = λ w h none. h }

-- one node more
pub beyond_more : (g : Network) (before after after' : ℕ → Bool) (order : List ℕ) (i d v : ℕ) → i < length order → v ≡ get_or order i d → IsBeyond g before (has (take i order)) after → IsClear g v after after' → IsBeyond g before (has (take (i + 1) order)) after'
beyond_more g before after after' order i d v l is b c = record {
  kept = λ w h.
      let now = c.kept w h in
      let old = b.kept w now.0 in
      (old.0, λ u there. elim (cases u there) [ inl earlier ↦ old.1 u earlier | inr same ↦ subst (λ z. (w ≢ z) × (linked g z w ≡ false)) same (now.1, now.2) ]);
  rest = λ w h none. c.rest w (b.rest w h (λ u there. none u (from u (inl there)))) (none v (from v (inr refl))).0 (none v (from v (inr refl))).1;
}
  where
    more : (u : ℕ) → has (take (i + 1) order) u ≡ (has (take i order) u || (v == u))
    more u = ap (λ xs. has xs u) (take_more order i d l ∙ ap (λ z. take i order ++ z ∷ []) (sym is)) ∙ has-push (take i order) v u

    cases : (u : ℕ) → has (take (i + 1) order) u ≡ true → (has (take i order) u ≡ true) ⊎ (v ≡ u)
    cases u h = elim (or_cases (has (take i order) u) (v == u) (sym (more u) ∙ h)) [ inl e ↦ inl e | inr e ↦ inr (eqb-true v u e) ]

    from : (u : ℕ) → (has (take i order) u ≡ true) ⊎ (v ≡ u) → has (take (i + 1) order) u ≡ true
    from u h = more u ∙ elim h [ inl e ↦ or_left (has (take i order) u) (v == u) e | inr e ↦ or_right (has (take i order) u) (v == u) (eq-eqb v u e) ]

-- ---- the part that an ear leaves

-- what is left without the nodes of the ear
pub without_ear : (p q : Bool) → cond p false q ≡ (q && not p)
without_ear true true = refl
without_ear true false = refl
without_ear false true = refl
without_ear false false = refl

-- a part among the same nodes
pub part_same : (g : Network) (free free' : ℕ → Bool) (x : ℕ) (order : List ℕ) (inside : ℕ → Bool) → ((v : ℕ) → free v ≡ free' v) → IsFreePart g free x order inside → IsFreePart g free' x order inside
part_same g free free' x order inside same p = record {
  holds = p.holds;
  within = λ v h. sym (same v) ∙ p.within v h;
  closed = λ v w h l f. p.closed v w h l (same w ∙ f);
  connected = p.connected;
  first = p.first;
  listed = p.listed;
  only = p.only;
  different = p.different;
}

-- ---- one turn

module _ (g : Network) (graph : IsGraph g) (old rest : List Bool) (u : ℕ) (left : IsLeft g old u) (are : AreLeft old rest) where
  rest_is : (v : ℕ) → v < g.nodes → mark_of rest v ≡ not (mark_of old v)
  rest_is v l = are.marks v (omega (arith, l, left.size))

  pub rest_below : (v : ℕ) → mark_of rest v ≡ true → v < g.nodes
  rest_below v h = omega (arith, marked_below rest v h, are.size, left.size)

  pub rest_size : length rest ≡ g.nodes
  rest_size = are.size ∙ left.size

  pub rest_new : (v : ℕ) → mark_of rest v ≡ true → mark_of old v ≡ false
  rest_new v h = not-true (mark_of old v) (sym (rest_is v (rest_below v h)) ∙ h)

  pub new_rest : (v : ℕ) → v < g.nodes → mark_of old v ≡ false → mark_of rest v ≡ true
  new_rest v l h = rest_is v l ∙ not_from_false (mark_of old v) h

  -- u is left
  pub u_left : mark_of rest u ≡ true
  u_left = new_rest u left.node left.third

  -- what is left is the part of u in it
  pub all_left : (order : List ℕ) (inside : ℕ → Bool) → IsFreePart g (mark_of rest) u order inside → (v : ℕ) → mark_of rest v ≡ true → has order v ≡ true
  all_left order inside p v h = p.listed v
      (spreads g (mark_of rest) inside (connected_same g graph (complement (mark_of old)) (mark_of rest) (λ w l. sym (rest_is w l)) left.connected)
      (λ a b ra ia l rb. p.closed a b ia l rb) u v left.node (rest_below v h) u_left h p.holds)

  -- where u alone is in it, it alone is left
  pub alone_left : (order : List ℕ) (inside : ℕ → Bool) → IsFreePart g (mark_of rest) u order inside → length order ≡ 1 → (v : ℕ) → v < g.nodes → mark_of old v ≡ false → v ≡ u
  alone_left order inside p one v l new =
      let k = place_in order v (all_left order inside p v (new_rest v l new)) in
      let first : k.0 ≡ 0 = omega (arith, k.1, one) in
      sym k.2 ∙ (ap (entry_at order) first ∙ p.first)

  -- the last node of it is another one
  pub last_left : (order : List ℕ) (inside : ℕ → Bool) → IsFreePart g (mark_of rest) u order inside → (k : ℕ) → 1 ≤ k → k < length order → (mark_of rest (entry_at order k) ≡ true) × (entry_at order k ≢ u)
  last_left order inside p k low l = (p.within (entry_at order k) (p.only k l), λ same. p.different 0 k (omega (arith, low)) l (p.first ∙ sym same))

  -- what a search is given is what is left
  pub part_read : (free : List Bool) (order : List ℕ) (inside : ℕ → Bool) → free ≡ rest → IsFreePart g (mark_of free) u order inside → IsFreePart g (mark_of rest) u order inside
  part_read free order inside same p = subst (λ xs. IsFreePart g (mark_of xs) u order inside) same p

  -- a part has the node from which it is searched
  pub part_some : (order : List ℕ) (inside : ℕ → Bool) → IsFreePart g (mark_of rest) u order inside → 1 ≤ length order
  part_some order inside p = let k = place_in order u (p.listed u p.holds) in omega (arith, k.1)

  -- the last node of a larger part is left, and another
  pub last_read : (order : List ℕ) (inside : ℕ → Bool) → IsFreePart g (mark_of rest) u order inside → (count x : ℕ) → count ≡ length order → (count ≡ 1 → ⊥) → x ≡ get_or order (count - 1) x → (mark_of rest x ≡ true) × (x ≢ u)
  last_read order inside p count x size more at =
      let some : 1 ≤ length order = part_some order inside p in
      let within : count - 1 < length order = omega (arith, some, size) in
      let last = last_left order inside p (count - 1) (omega (arith, some, size, more)) within in
      let x_is : x ≡ entry_at order (count - 1) = get_or_read order _ _ within at 0 in
      (rw x_is last.0, λ same. last.1 (sym x_is ∙ same))

  -- its nodes are nodes
  pub order_left : (order : List ℕ) (inside : ℕ → Bool) → IsFreePart g (mark_of rest) u order inside → All (λ v. v < g.nodes) order
  order_left order inside p = All-from_has (λ v. v < g.nodes) order (λ v h. let k = place_in order v h in subst (λ z. z < g.nodes) k.2 (rest_below (entry_at order k.0) (p.within (entry_at order k.0) (p.only k.0 k.1))))

  -- an ear off u between its ends
  module _ (e : List ℕ) (ear : IsEar g (mark_of old) e) (off : between e u ≡ false) where
    -- has not got u
    pub u_off : has e u ≡ false
    u_off = false_from_ne_true (has e u) (λ h. elim (has_between g (mark_of old) e ear u h) [
      | inl o ↦ both_ways (mark_of old u) left.third o
      | inr m ↦ both_ways (between e u) off m
    ])

    -- and the part of u that it leaves
    module _ (order : List ℕ) (C : ℕ → Bool) (p : IsFreePart g (λ v. mark_of rest v && not (has e v)) u order C) where
      -- are the facts of a turn
      pub round_from : Round g (mark_of old) (mark_of rest) (between e) C u
      round_from = record {
        rest_small = rest_below;
        rest_off = rest_new;
        rest_all = new_rest;
        connected = connected_same g graph (complement (mark_of old)) (mark_of rest) (λ w l. sym (rest_is w l)) left.connected;
        mid_rest = λ v m. new_rest v (node v m) (between_new g (mark_of old) e ear v m);
        part_rest = λ v c. (and_parts (mark_of rest v) (not (has e v)) (p.within v c)).0;
        part_off = λ v c. false_from_ne_true (between e v) (λ m. both_ways (has e v) (not-true (has e v) (and_parts (mark_of rest v) (not (has e v)) (p.within v c)).1) (between_has e v m));
        part_has = p.holds;
        part_closed = λ v w c l r n. p.closed v w c l (and_from (mark_of rest w) (not (has e w)) r (not_from_false (has e w) (false_from_ne_true (has e w) (λ h. elim (has_between g (mark_of old) e ear w h) [
          | inl o ↦ both_ways (mark_of old w) (rest_new w r) o
          | inr m ↦ both_ways (between e w) n m
        ]))));
        part_connected = p.connected;
      }
        where
          node : (v : ℕ) → between e v ≡ true → v < g.nodes
          node v m =
              let i = run_gives (entry_at e) 1 (length e - 1) v m in
              subst (λ z. z < g.nodes) i.3 (ear_below g graph (mark_of old) e ear i.0 (omega (arith, i.2)))

      part_has : (v : ℕ) → has order v ≡ true → C v ≡ true
      part_has v h = let k = place_in order v h in subst (λ z. C z ≡ true) k.2 (p.only k.0 k.1)

      -- the nodes beyond the part are those off it and its border
      module _ (others : ℕ → Bool) (b : IsBeyond g (mark_of rest) (has order) others) where
        others_gives : (w : ℕ) → others w ≡ true → (mark_of rest w ≡ true) × (C w ≡ false) × (border g (mark_of rest) C w ≡ false)
        others_gives w h =
            let k = b.kept w h in (
              k.0,
              false_from_ne_true (C w) (λ c. (k.1 w (p.listed w c)).0 refl),
              false_from_ne_true (border g (mark_of rest) C w) (λ at.
                  let y = touch_gives g C w (border_parts g graph (mark_of old) (mark_of rest) (between e) C u round_from w at).2 in
                  both_ways (linked g y.0 w) (k.1 y.0 (p.listed y.0 y.1)).1 y.2),
            )

        others_from : (w : ℕ) → mark_of rest w ≡ true → C w ≡ false → border g (mark_of rest) C w ≡ false → others w ≡ true
        others_from w r c n = b.rest w r (λ v h. (
          λ same. both_ways (C w) c (subst (λ z. C z ≡ true) (sym same) (part_has v h)),
          false_from_ne_true (linked g v w) (λ l. both_ways (border g (mark_of rest) C w) n
              (border_from g graph (mark_of old) (mark_of rest) (between e) C u round_from w r c (touch_from g graph C v w (part_has v h) l))),
        ))

        -- a part of them makes a turn
        pub turn_from : (x : ℕ) (further : List ℕ) (K : ℕ → Bool) → IsFreePart g others x further K → IsTurn g (mark_of old) e K (mark_of rest) C u
        turn_from x further K q = record {
          round = round_from;
          rest = λ v k. (others_gives v (q.within v k)).0;
          off_part = λ v k. (others_gives v (q.within v k)).1;
          off_border = λ v k. (others_gives v (q.within v k)).2;
          closed = λ v w k l r c n. q.closed v w k l (others_from w r c n);
          some = (x, q.holds);
          connected = q.connected;
        }

        -- where there are none, the order goes on after the ear
        pub ends_from : ((v : ℕ) → mark_of rest v ≡ true → others v ≡ false) → LeavesConnected g u (mark_of old) e
        ends_from none =
            let done : (v : ℕ) → mark_of rest v ≡ true → (C v ≡ true) ⊎ (border g (mark_of rest) C v ≡ true) = λ v r. elim (cases_Bool (C v)) [
              | inl c ↦ inl c
              | inr n ↦ elim (cases_Bool (border g (mark_of rest) C v)) [ inl at ↦ inr at | inr off_border ↦ absurd (both_ways (others v) (none v r) (others_from v r n off_border)) ]
            ] in
            let go = goes_on g graph (mark_of old) (mark_of rest) (between e) C u round_from done (with_ear (mark_of old) e)
            (λ v o. or_left (mark_of old v) (has e v) o)
            (λ v m. or_right (mark_of old v) (has e v) (between_has e v m))
            (λ v h. elim (or_cases (mark_of old v) (has e v) h) [ inl o ↦ inl o | inr at ↦ has_between g (mark_of old) e ear v at ]) in
            record {
              third = go.0;
              connected = go.1;
              touched = λ k d low high. go.2 (get_or e k d) (subst (λ z. between e z ≡ true) (get_or_default e k 0 d (omega (arith, high))) (run_at (entry_at e) 1 (length e - 1) k low high));
            }

      -- after a better ear the part of u has more nodes
      pub grows_to : (e' : List ℕ) → IsBetter g (mark_of old) (mark_of rest) C e' → (C' : ℕ → Bool)
          → ((v w : ℕ) → C' v ≡ true → linked g v w ≡ true → mark_of rest w ≡ true → between e' w ≡ false → C' w ≡ true) → C' u ≡ true → count g.nodes C < count g.nodes C'
      grows_to e' b C' closed holds =
          let s = grows g graph (mark_of old) (mark_of rest) (between e) C u round_from (between e') C' b.misses.0 closed holds b.keeps b.misses.1 b.misses.2 in
          count-less g.nodes C C' b.misses.0 s.3 s.2 s.1 (λ v l c. s.0 v c)

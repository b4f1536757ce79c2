-- Nodes numbered ear by ear: between its two neighbours on its ear, and below a neighbour on a later ear.
use Rattle.std.proofs.Common.{◌≡◌, ◌⊎◌, ℕ, zero, suc, ◌+◌, ◌-◌, ◌<◌, ◌≤◌, List, [], ◌∷◌, ◌++◌, length, get_or, Bool, true, false, ◌||◌, refl, sym, subst, ap, ◌∙◌, inl, inr, arith}
use Rattle.std.proofs.Math.ListN.{get_or-append}
use Rattle.std.proofs.lemmas.List.{length-append}
use Rattle.std.proofs.lemmas.Bool.{false≢true, or_cases, or_from, or_left, or_right, cases_eq}
use Rattle.tomo_base.specs.Network.{Network, linked}
use Rattle.tomo_base.specs.Search.{entry_at}
use Rattle.tomo_base.proofs.Links.{linked_comm}
use Rattle.ear_order.specs.Turns.{between}
use Rattle.ear_order.proofs.Places.{EarAt, run_at, run_gives}
use Rattle.indep_trees.specs.Placing.{Sub, In, Distinct, Placed, Numbered}
use Rattle.indep_trees.proofs.Sublists.{split, sub_nil, sub_refl, sub_trans, sub_append, sub_between, sub_pair, in_at, in_gives, in_cases, distinct_insert}

-- one more ear, x first and y last, where x stands before y in the order
module _ (g : Network) (r t u : ℕ) (D : ℕ → Bool)
    (x : ℕ) (mid : List ℕ) (y : ℕ) (l l2 : List ℕ) (low high ear : ℕ → ℕ) (k : ℕ)
    (old : Numbered g r t u D (l ++ x ∷ l2) low high ear k) (behind : In y l2)
    (is_ear : EarAt g D (entry_at (x ∷ (mid ++ y ∷ []))) (length (x ∷ (mid ++ y ∷ [])) - 1)) where
  -- the ear as a list
  abbrev pub nodes : List ℕ
  nodes = x ∷ (mid ++ y ∷ [])

  -- the inner nodes of the ear
  abbrev pub new : ℕ → Bool
  new = between nodes

  -- the nodes of the ears so far with this one
  abbrev pub more : ℕ → Bool
  more v = D v || between nodes v

  long : length nodes ≡ suc (suc (length mid))
  long = omega (arith, length-append mid (y ∷ []))

  -- the inner nodes are those of mid
  pub mid_new : (v : ℕ) → In v mid → new v ≡ true
  mid_new v h =
      let i = in_gives v mid h in
      let e : entry_at nodes (suc i.0) ≡ v = get_or-append mid (y ∷ []) 0 i.0 i.1 ∙ i.2 in
      subst (λ j. new j ≡ true) e (run_at (entry_at nodes) 1 ((length nodes - 1)) (suc i.0) (omega arith) (omega (arith, i.1, long)))

  -- and each of mid is one
  pub new_mid : (v : ℕ) → new v ≡ true → In v mid
  new_mid v h = let i = run_gives (entry_at nodes) 1 ((length nodes - 1)) v h in at i.0 i.1 i.2 i.3
    where
      at : (i : ℕ) → 1 ≤ i → i < (length nodes - 1) → entry_at nodes i ≡ v → In v mid
      at zero a b e = absurd (omega arith)
      at (suc i) a b e =
          let small : i < length mid = omega (arith, long) in
          subst (λ j. In j mid) (sym (get_or-append mid (y ∷ []) 0 i small) ∙ e) (in_at mid i small)

  -- an inner node was in no ear before
  pub new_fresh : (v : ℕ) → new v ≡ true → D v ≡ false
  new_fresh v h = let i = run_gives (entry_at nodes) 1 ((length nodes - 1)) v h in subst (λ j. D j ≡ false) i.3 (is_ear.fresh i.0 i.1 i.2)

  old_not_new : (v : ℕ) → D v ≡ true → new v ≡ false
  old_not_new v d = split (new v) (new v ≡ false) (λ h. absurd (false≢true (sym (new_fresh v h) ∙ d))) (λ off. off)

  -- each place of the ear has a node of the ears so far
  place_more : (i : ℕ) → i ≤ (length nodes - 1) → more (entry_at nodes i) ≡ true
  place_more i h = elim (cases_eq i 0) [
    | inl e ↦ or_left (D (entry_at nodes i)) (new (entry_at nodes i)) (subst (λ j. D (entry_at nodes j) ≡ true) (sym e) is_ear.starts)
    | inr low' ↦ elim (cases_eq i ((length nodes - 1))) [
      | inl e ↦ or_left (D (entry_at nodes i)) (new (entry_at nodes i)) (subst (λ j. D (entry_at nodes j) ≡ true) (sym e) is_ear.ends)
      | inr high' ↦ or_right (D (entry_at nodes i)) (new (entry_at nodes i)) (run_at (entry_at nodes) 1 ((length nodes - 1)) i (omega arith) (omega arith))
    ]
  ]

  -- the order with the inner nodes put in after x
  abbrev pub order : List ℕ
  order = l ++ x ∷ (mid ++ l2)

  -- what stood in order still does
  kept : (s : List ℕ) → Sub s (l ++ x ∷ l2) → Sub s order
  kept s h = sub_trans s (l ++ x ∷ l2) order h
      (sub_append l l (x ∷ l2) (x ∷ (mid ++ l2)) (sub_refl l) (inr (refl, sub_append [] mid l2 l2 (sub_nil mid) (sub_refl l2))))

  -- the ear stands in order
  along_ear : Sub nodes order
  along_ear = sub_between l x mid y l2 behind

  has_more : (v : ℕ) → more v ≡ true → In v order
  has_more v h = elim (or_cases (D v) (new v) h) [
    | inl d ↦ kept (v ∷ []) (old.has v d)
    | inr n ↦ sub_append [] l (v ∷ []) (x ∷ (mid ++ l2)) (sub_nil l) (inl (left mid (new_mid v n)))
  ]
    where
      left : (m : List ℕ) → In v m → In v (m ++ l2)
      left [] s = absurd s
      left (c ∷ m) (inl s) = inl (left m s)
      left (c ∷ m) (inr s) = inr (s.0, sub_nil (m ++ l2))

  only_more : (v : ℕ) → In v order → more v ≡ true
  only_more v h = elim (in_cases v l (x ∷ (mid ++ l2)) h) [
    | inl a ↦ from_old (before l a)
    | inr b ↦ tail b
  ]
    where
      from_old : In v (l ++ x ∷ l2) → more v ≡ true
      from_old a = or_left (D v) (new v) (old.only v a)

      before : (m : List ℕ) → In v m → In v (m ++ x ∷ l2)
      before [] s = absurd s
      before (c ∷ m) (inl s) = inl (before m s)
      before (c ∷ m) (inr s) = inr (s.0, sub_nil (m ++ x ∷ l2))

      back : In v (x ∷ l2) → In v (l ++ x ∷ l2)
      back s = sub_append [] l (v ∷ []) (x ∷ l2) (sub_nil l) s

      tail : In v (x ∷ (mid ++ l2)) → more v ≡ true
      tail (inr s) = from_old (back (inr (s.0, sub_nil l2)))
      tail (inl s) = elim (in_cases v mid l2 s) [ inl m ↦ or_right (D v) (new v) (mid_new v m) | inr m ↦ from_old (back (inl m)) ]

  -- mid has no node twice, since the ear has none
  mid_distinct : Distinct mid
  mid_distinct = from mid 1 (λ i h. let e : 1 + i ≡ suc i = omega arith in ap (entry_at nodes) e ∙ get_or-append mid (y ∷ []) 0 i h) (omega (arith, long))
    where
      from : (m : List ℕ) (a : ℕ) → ((i : ℕ) → i < length m → entry_at nodes (a + i) ≡ get_or m i 0) → a + length m ≤ (length nodes - 1) → Distinct m
      from [] a e h = tt
      from (c ∷ m) a e h = (
        λ s. let i = in_gives c m s in
            is_ear.distinct (a + 0) (a + suc i.0) (omega arith) (omega (arith, i.1)) (e 0 (omega arith) ∙ sym (e (suc i.0) (omega (arith, i.1)) ∙ i.2)),
        from m (suc a) (λ i q. let k : suc a + i ≡ a + suc i = omega arith in ap (entry_at nodes) k ∙ e (suc i) (omega arith)) (omega arith),
      )

  -- the neighbours and the ear of the inner nodes are set, those of the others kept
  module _ (low' high' ear' : ℕ → ℕ)
      (low_set : (i : ℕ) → suc i < (length nodes - 1) → low' (entry_at nodes (suc i)) ≡ entry_at nodes i)
      (high_set : (i : ℕ) → suc i < (length nodes - 1) → high' (entry_at nodes (suc i)) ≡ entry_at nodes (suc (suc i)))
      (ear_set : (v : ℕ) → new v ≡ true → ear' v ≡ k)
      (low_kept : (v : ℕ) → new v ≡ false → low' v ≡ low v)
      (high_kept : (v : ℕ) → new v ≡ false → high' v ≡ high v)
      (ear_kept : (v : ℕ) → new v ≡ false → ear' v ≡ ear v)
      (leads : (v : ℕ) → new v ≡ true → (v ≡ u → ⊥) → (w : ℕ) × (linked g v w ≡ true) × (more w ≡ false)) where
    -- no node is on an ear after this one
    ear_more : (v : ℕ) → more v ≡ true → ear' v < suc k
    ear_more v h = split (new v) (ear' v < suc k)
        (λ n. omega (arith, ear_set v n))
        (λ off. elim (or_cases (D v) (new v) h) [
          | inl d ↦ omega (arith, ear_kept v off, old.ear_below v d)
          | inr n ↦ absurd (false≢true (sym off ∙ n))
        ])

    -- an inner node
    new_placed : (v : ℕ) → new v ≡ true → (v ≡ u → ⊥) → Placed g more order low' high' ear' v
    new_placed v n apart = let i = run_gives (entry_at nodes) 1 ((length nodes - 1)) v n in at i.0 i.1 i.2 i.3
      where
        at : (i : ℕ) → 1 ≤ i → i < (length nodes - 1) → entry_at nodes i ≡ v → Placed g more order low' high' ear' v
        at zero a b e = absurd (omega arith)
        at (suc i) a b e =
            let below : low' v ≡ entry_at nodes i = subst (λ j. low' j ≡ entry_at nodes i) e (low_set i b) in
            let above : high' v ≡ entry_at nodes (suc (suc i)) = subst (λ j. high' j ≡ entry_at nodes (suc (suc i))) e (high_set i b) in
            let mine : ear' v ≡ k = ear_set v n in
            let far = leads v n apart in
            record {
              low_link = subst (λ j. linked g v j ≡ true) (sym below) (subst (λ j. linked g j (entry_at nodes i) ≡ true) e (linked_comm g (entry_at nodes i) (entry_at nodes (suc i)) (is_ear.steps i (omega arith))));
              high_link = subst (λ j. linked g v j ≡ true) (sym above) (subst (λ j. linked g j (entry_at nodes (suc (suc i))) ≡ true) e (is_ear.steps (suc i) b));
              low_before = subst (λ j. Sub (j ∷ v ∷ []) order) (sym below) (subst (λ j. Sub (entry_at nodes i ∷ j ∷ []) order) e
                  (sub_trans (entry_at nodes i ∷ entry_at nodes (suc i) ∷ []) nodes order (sub_pair nodes i (omega arith)) along_ear));
              high_after = subst (λ j. Sub (v ∷ j ∷ []) order) (sym above) (subst (λ j. Sub (j ∷ entry_at nodes (suc (suc i)) ∷ []) order) e
                  (sub_trans (entry_at nodes (suc i) ∷ entry_at nodes (suc (suc i)) ∷ []) nodes order (sub_pair nodes (suc i) (omega arith)) along_ear));
              low_ear = rw (below, mine) (omega (arith, ear_more (entry_at nodes i) (place_more i (omega arith))));
              high_ear = rw (above, mine) (omega (arith, ear_more (entry_at nodes (suc (suc i))) (place_more (suc (suc i)) (omega arith))));
              later = (far.0, far.1, inl far.2);
            }

    -- a node of the ears before
    old_placed : (v : ℕ) → D v ≡ true → Placed g D (l ++ x ∷ l2) low high ear v → Placed g more order low' high' ear' v
    old_placed v d p =
        let off : new v ≡ false = old_not_new v d in
        let below : low' v ≡ low v = low_kept v off in
        let above : high' v ≡ high v = high_kept v off in
        let mine : ear' v ≡ ear v = ear_kept v off in
        let low_in : D (low v) ≡ true = old.only (low v) (sub_trans (low v ∷ []) (low v ∷ v ∷ []) (l ++ x ∷ l2) (inr (refl, tt)) p.low_before) in
        let high_in : D (high v) ≡ true = old.only (high v) (sub_trans (high v ∷ []) (v ∷ high v ∷ []) (l ++ x ∷ l2) (inl (inr (refl, tt))) p.high_after) in
        let low_at : ear' (low v) ≡ ear (low v) = ear_kept (low v) (old_not_new (low v) low_in) in
        let high_at : ear' (high v) ≡ ear (high v) = ear_kept (high v) (old_not_new (high v) high_in) in
        record {
          low_link = subst (λ j. linked g v j ≡ true) (sym below) p.low_link;
          high_link = subst (λ j. linked g v j ≡ true) (sym above) p.high_link;
          low_before = subst (λ j. Sub (j ∷ v ∷ []) order) (sym below) (kept (low v ∷ v ∷ []) p.low_before);
          high_after = subst (λ j. Sub (v ∷ j ∷ []) order) (sym above) (kept (v ∷ high v ∷ []) p.high_after);
          low_ear = rw (below, mine, low_at) p.low_ear;
          high_ear = rw (above, mine, high_at) p.high_ear;
          later = (p.later.0, p.later.1, after p.later.0 p.later.2);
        }
      where
        after : (w : ℕ) → (D w ≡ false) ⊎ ((D w ≡ true) × (ear v < ear w)) → (more w ≡ false) ⊎ ((more w ≡ true) × (ear' v < ear' w))
        after w (inl out) = split (new w) ((more w ≡ false) ⊎ ((more w ≡ true) × (ear' v < ear' w)))
            (λ n. inr (or_right (D w) (new w) n, omega (arith, ear_set w n, ear_kept v (old_not_new v d), old.ear_below v d)))
            (λ off. inl (or_from (D w) (new w) out off))
        after w (inr h) = inr (or_left (D w) (new w) h.0, omega (arith, ear_kept w (old_not_new w h.0), ear_kept v (old_not_new v d), h.1))

    -- the order with one more ear
    pub numbered_more : Numbered g r t u more order low' high' ear' (suc k)
    numbered_more = record {
      distinct = distinct_insert l x mid l2 old.distinct mid_distinct (λ v m o. false≢true (sym (new_fresh v (mid_new v m)) ∙ old.only v o));
      has = has_more;
      only = only_more;
      ear_below = ear_more;
      placed = λ v h vr vt vu. split (new v) (Placed g more order low' high' ear' v)
          (λ n. new_placed v n vu)
          (λ off. elim (or_cases (D v) (new v) h) [
            | inl d ↦ old_placed v d (old.placed v d vr vt vu)
            | inr n ↦ absurd (false≢true (sym off ∙ n))
          ]);
    }

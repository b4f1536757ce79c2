-- Ways that grow over nodes that are left, and the ears that they become.
use Rattle.std.proofs.Common.{◌≡◌, ◌≢◌, ℕ, suc, ◌+◌, ◌-◌, ◌<◌, ◌≤◌, Bool, true, false, ◌||◌, ◌==◌, cond, List, [], ◌∷◌, ◌++◌, length, get_or, set, drop, All, refl, sym, subst, ap, ◌∙◌, inl, inr, arith, get_or-set_same, get_or-set_other}
use Rattle.std.proofs.lemmas.Bool.{cases_Bool, cases_eq, both_ways, or_cases, or_left, or_right, false_from_ne_true, eq-eqb, ne_eqb}
use Rattle.std.proofs.lemmas.List.{get_or_default, get_or_append_left, get_or_push, length_push}
use Rattle.tomo_base.specs.Network.{Network, linked, IsGraph}
use Rattle.tomo_base.specs.Sets.{has}
use Rattle.tomo_base.specs.Search.{mark_of, entry_at}
use Rattle.tomo_base.proofs.Ascending.{place_in, has-at}
use Rattle.tomo_base.proofs.Links.{linked_below, linked_comm}
use Rattle.tomo_base.proofs.Members.{has_first, has_later, has_cases, none_in}
use Rattle.ear_order.specs.Ears.{IsEar, with_ear}
use Rattle.ear_order.specs.Easy.{IsOpenEar, GoesOnTo, EndsAt}
use Rattle.ear_order.proofs.Lists.{ear_from}
use Rattle.ear_order.proofs.Reaching.{has-push}

-- what has all of another test is the same with it
absorbs : (p q : Bool) → (q ≡ true → p ≡ true) → p ≡ (p || q)
absorbs true q h = refl
absorbs false true h = absurd (both_ways false refl (h refl))
absorbs false false h = refl

or_false : (a : Bool) → (a || false) ≡ a
or_false true = refl
or_false false = refl

module _ (g : Network) (old : ℕ → Bool) (u : ℕ) where
  -- a way to the first node
  pub way_begun : (marks : List Bool) → ((x : ℕ) → mark_of marks x ≡ old x) → (f v : ℕ) → old f ≡ true → linked g v f ≡ true → old v ≡ false → v ≢ u → v < length marks
      → IsOpenEar g old (mark_of (set marks v true)) u (f ∷ v ∷ [])
  way_begun marks same f v is l new other room =
      let way = f ∷ v ∷ [] in
      record {
        some = omega arith;
        begins = is;
        steps = λ k h. let none : k ≡ 0 = omega (arith, h) in rw none (linked_comm g v f l);
        fresh = λ k low h. let one : k ≡ 1 = omega (arith, low, h) in rw one (new, other);
        different = λ i j lt h e.
            let none : i ≡ 0 = omega (arith, lt, h) in
            let one : j ≡ 1 = omega (arith, lt, h) in
            let at : f ≡ v = ap (entry_at way) (sym none) ∙ (e ∙ ap (entry_at way) one) in
            both_ways (old v) new (subst (λ z. old z ≡ true) at is);
        gone_are = λ x. elim (cases_eq x v) [
          | inl here ↦ ap (mark_of (set marks v true)) here ∙ (get_or-set_same marks v true false room
              ∙ sym (or_right (old x) (has way x) (subst (λ z. has way z ≡ true) (sym here) (has_later f (v ∷ []) v (has_first v [])))))
          | inr off ↦ get_or-set_other marks v x true false off ∙ (same x ∙ absorbs (old x) (has way x) (λ h. elim (has_cases f (v ∷ []) x h) [
            | inl at ↦ subst (λ z. old z ≡ true) at is
            | inr more ↦ elim (has_cases v [] x more) [ inl at ↦ absurd (off (sym at)) | inr none ↦ absurd (none_in x none) ]
          ]))
        ];
      }

  -- of a way with one node more each place before the last is as before, and the last is the node's
  before_push : (way : List ℕ) (w k : ℕ) → k < length way → entry_at (way ++ w ∷ []) k ≡ entry_at way k
  before_push way w k l = get_or_append_left way (w ∷ []) 0 k l

  at_push : (way : List ℕ) (w k : ℕ) → k ≡ length way → entry_at (way ++ w ∷ []) k ≡ w
  at_push way w k e = get_or_push way w 0 k (sym e)

  steps_push : (way : List ℕ) (w : ℕ) → 1 ≤ length way → ((k : ℕ) → suc k < length way → linked g (entry_at way k) (entry_at way (suc k)) ≡ true) → linked g (entry_at way (length way - 1)) w ≡ true
      → (k : ℕ) → k < length way → linked g (entry_at (way ++ w ∷ []) k) (entry_at (way ++ w ∷ []) (suc k)) ≡ true
  steps_push way w some steps link k h = elim (cases_eq (suc k) (length way)) [
    | inl end ↦
        let last : k ≡ length way - 1 = omega (arith, end) in
        rw (before_push way w k h, at_push way w (suc k) end) (subst (λ j. linked g (entry_at way j) w ≡ true) (sym last) link)
    | inr more ↦ (let within : suc k < length way = omega (arith, more, h) in rw (before_push way w k h, before_push way w (suc k) within) (steps k within))
  ]

  module _ (gone : ℕ → Bool) (way : List ℕ) (is : IsOpenEar g old gone u way) where
    -- what is not gone is no old node, and not on the way
    pub off_old : (x : ℕ) → gone x ≡ false → old x ≡ false
    off_old x new = false_from_ne_true (old x) (λ o. both_ways (gone x) new (is.gone_are x ∙ or_left (old x) (has way x) o))

    off_way : (x : ℕ) → gone x ≡ false → has way x ≡ true → ⊥
    off_way x new h = both_ways (gone x) new (is.gone_are x ∙ or_right (old x) (has way x) h)

    -- what is on the way and no old node stands after the first place
    pub inner_place : (x : ℕ) → has way x ≡ true → old x ≡ false → (k : ℕ) × (1 ≤ k) × (k < length way) × (entry_at way k ≡ x)
    inner_place x h new =
        let k = place_in way x h in
        let later : 1 ≤ k.0 = elim (cases_eq k.0 0) [
          | inl none ↦ absurd (both_ways (old x) new (subst (λ z. old z ≡ true) (ap (entry_at way) (sym none) ∙ k.2) is.begins))
          | inr more ↦ omega (arith, more)
        ] in
        (k.0, later, k.1, k.2)

    -- u is not gone, unless it is old
    pub u_not_gone : old u ≡ false → gone u ≡ false
    u_not_gone third = false_from_ne_true (gone u) (λ h. elim (or_cases (old u) (has way u) (sym (is.gone_are u) ∙ h)) [
      | inl o ↦ both_ways (old u) third o
      | inr at ↦ (let k = inner_place u at third in (is.fresh k.0 k.1 k.2).1 k.3)
    ])

    -- all of the way are nodes
    pub way_below : IsGraph g → (k : ℕ) → k < length way → entry_at way k < g.nodes
    way_below graph k h = elim (cases_eq (suc k) (length way)) [
      | inl end ↦
          let before : suc (k - 1) ≡ k = omega (arith, end, is.some) in
          subst (λ j. entry_at way j < g.nodes) before (linked_below g.nodes g.links (entry_at way (k - 1)) (entry_at way (suc (k - 1))) graph (is.steps (k - 1) (omega (arith, before, h)))).1
      | inr more ↦ (linked_below g.nodes g.links (entry_at way k) (entry_at way (suc k)) graph (is.steps k (omega (arith, more, h)))).0
    ]

    pub way_all : IsGraph g → All (λ v. v < g.nodes) way
    way_all graph k d h = subst (λ v. v < g.nodes) (get_or_default way k 0 d h) (way_below graph k h)

    -- the ear that it becomes
    module _ (l : ℕ) (end : EndsAt g old way l) where
      pub way_ear : IsEar g old (way ++ l ∷ [])
      way_ear = ear_from g old (way ++ l ∷ []) (length way) (let n : length (way ++ l ∷ []) ≡ length way + 1 = length_push way l in omega (arith, n)) (record {
        inner_node = is.some;
        steps = steps_push way l (omega (arith, is.some)) is.steps end.link;
        distinct = λ i j lt le e. elim (cases_eq j (length way)) [
          | inl last ↦
              let at : entry_at way i ≡ l = sym (before_push way l i (omega (arith, lt, last))) ∙ (e ∙ at_push way l j last) in
              elim (cases_eq i 0) [
                | inl none ↦ end.other (sym at ∙ ap (entry_at way) none)
                | inr more ↦ both_ways (old l) (subst (λ z. old z ≡ false) at (is.fresh i (omega (arith, more)) (omega (arith, lt, last))).0) end.is_old
              ]
          | inr before ↦
              let within : j < length way = omega (arith, le, before) in
              is.different i j lt within (sym (before_push way l i (omega (arith, lt, within))) ∙ (e ∙ before_push way l j within))
        ];
        starts = rw (before_push way l 0 (omega (arith, is.some))) is.begins;
        ends = rw (at_push way l (length way) refl) end.is_old;
        fresh = λ i low h. rw (before_push way l i h) (is.fresh i (omega (arith, low)) h).0;
      })

      -- has its nodes gone, and the old ones
      pub way_gone : (x : ℕ) → gone x ≡ with_ear old (way ++ l ∷ []) x
      way_gone x = is.gone_are x ∙ elim (cases_eq x l) [
        | inl here ↦
            let o : old x ≡ true = subst (λ z. old z ≡ true) (sym here) end.is_old in
            or_left (old x) (has way x) o ∙ sym (or_left (old x) (has (way ++ l ∷ []) x) o)
        | inr off ↦ ap (λ b. old x || b) (sym (has-push way l x ∙ (ap (λ b. has way x || b) (ne_eqb l x (λ e. off (sym e))) ∙ or_false (has way x))))
      ]

      -- and each place after the first and before the last from the way
      pub way_inner : (k d : ℕ) → k < length way → get_or (way ++ l ∷ []) k d ≡ entry_at way k
      way_inner k d h = get_or_default (way ++ l ∷ []) k d 0 (let n : length (way ++ l ∷ []) ≡ length way + 1 = length_push way l in omega (arith, h, n)) ∙ before_push way l k h

  -- the way over one node more
  pub way_more : (marks : List Bool) (way : List ℕ) (w : ℕ) → IsOpenEar g old (mark_of marks) u way → GoesOnTo g (mark_of marks) u (entry_at way (length way - 1)) w → w < length marks
      → IsOpenEar g old (mark_of (set marks w true)) u (way ++ w ∷ [])
  way_more marks way w is next room =
      let size : length (way ++ w ∷ []) ≡ length way + 1 = length_push way w in
      record {
        some = omega (arith, is.some, size);
        begins = rw (before_push way w 0 (omega (arith, is.some))) is.begins;
        steps = λ k h. steps_push way w (omega (arith, is.some)) is.steps next.link k (omega (arith, h, size));
        fresh = λ k low h. elim (cases_eq k (length way)) [
          | inl last ↦ rw (at_push way w k last) (off_old (mark_of marks) way is w next.is_left, next.other)
          | inr before ↦ (let within : k < length way = omega (arith, h, size, before) in rw (before_push way w k within) (is.fresh k low within))
        ];
        different = λ i j lt h e. elim (cases_eq j (length way)) [
          | inl last ↦
              let within : i < length way = omega (arith, lt, last) in
              let at : entry_at way i ≡ w = sym (before_push way w i within) ∙ (e ∙ at_push way w j last) in
              off_way (mark_of marks) way is w next.is_left (subst (λ z. has way z ≡ true) at (has-at way i 0 within))
          | inr before ↦
              let within : j < length way = omega (arith, h, size, before) in
              is.different i j lt within (sym (before_push way w i (omega (arith, lt, within))) ∙ (e ∙ before_push way w j within))
        ];
        gone_are = λ x. elim (cases_eq x w) [
          | inl here ↦ ap (mark_of (set marks w true)) here ∙ (get_or-set_same marks w true false room
              ∙ sym (or_right (old x) (has (way ++ w ∷ []) x) (has-push way w x ∙ or_right (has way x) (w == x) (eq-eqb w x (sym here)))))
          | inr off ↦ get_or-set_other marks w x true false off ∙ (is.gone_are x
              ∙ ap (λ b. old x || b) (sym (has-push way w x ∙ (ap (λ b. has way x || b) (ne_eqb w x (λ e. off (sym e))) ∙ or_false (has way x)))))
        ];
      }

  -- all of the way after its first node are nodes
  pub tail_all : IsGraph g → (gone : ℕ → Bool) (way : List ℕ) → IsOpenEar g old gone u way → All (λ v. v < g.nodes) (drop 1 way)
  tail_all graph gone [] is = absurd (omega (arith, is.some))
  tail_all graph gone (f ∷ p) is = λ k d h. way_all gone (f ∷ p) is graph (suc k) d (omega (arith, h))

  -- where the marks are taken from a way after its first node, the old nodes alone are marked
  pub way_back : (marks new : List Bool) (way : List ℕ) → IsOpenEar g old (mark_of marks) u way → ((x : ℕ) → mark_of new x ≡ cond (has (drop 1 way) x) false (mark_of marks x)) → (x : ℕ) → mark_of new x ≡ old x
  way_back marks new [] is back x = absurd (omega (arith, is.some))
  way_back marks new (f ∷ p) is back x = back x ∙ elim (cases_Bool (has p x)) [
    | inl there ↦
        let k = place_in p x there in
        rw there (sym (subst (λ z. old z ≡ false) k.2 (is.fresh (suc k.0) (omega arith) (omega (arith, k.1))).0))
    | inr off ↦ rw off (is.gone_are x ∙ sym (absorbs (old x) (has (f ∷ p) x) (λ h. elim (has_cases f p x h) [
      | inl at ↦ subst (λ z. old z ≡ true) at is.begins
      | inr more ↦ absurd (both_ways (has p x) off more)
    ])))
  ]

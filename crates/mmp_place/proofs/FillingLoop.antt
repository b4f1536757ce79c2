-- The loop that fills a set: the nodes before a place of its list are looked at, and the least idle ones of them are added.
use Rattle.std.proofs.Common.{◌≡◌, ℕ, ◌+◌, ◌<◌, ◌≤◌, nat_lt, min, Bool, true, false, not, ◌&&◌, ◌||◌, ◌==◌, List, [], ◌∷◌, ◌++◌, length, get_or, take, All, refl, sym, ap, ◌∙◌, subst, arith, inl, inr, lt-ltb, le-ltb}
use Rattle.std.specs.List.Sorted.{IsStrictlyIncreasing}
use Rattle.std.proofs.lemmas.Bool.{cases_Bool, cases_lt, both_ways, and_parts, eqb-true}
use Rattle.tomo_base.specs.Network.{Network}
use Rattle.tomo_base.specs.Sets.{one_if, count, size, has, meet, touches, complement}
use Rattle.std.proofs.lemmas.List.{take_more, take_all}
use Rattle.tomo_base.proofs.Counts.{count-mono, count-same}
use Rattle.tomo_base.proofs.Ascending.{has-at}
use Rattle.mmp_place.specs.Rule.{counting, wanting, idle, filled, filled_each}
use Rattle.mmp_place.proofs.Prefixes.{prefix_new, prefix_more, prefix_count_more, prefix_count_none, prefix_count, prefix_all}

-- from the monitors m those of the first i nodes are added that the filling adds; so many nodes count now
pub record IsFilledTo (g : Network) (xs : List ℕ) (m : ℕ → Bool) (i : ℕ) (w : ℕ → Bool) (counted : ℕ) : Type 0 where
  pub nodes : (v : ℕ) → w v ≡ (m v || (has (take i xs) v && (idle g (has xs) m v && nat_lt (count v (idle g (has xs) m)) (wanting g (has xs) m))))
  pub total : counted ≡ size g (counting g (has xs) m) + min (size g (meet (has (take i xs)) (idle g (has xs) m))) (wanting g (has xs) m)

module _ (g : Network) (xs : List ℕ) (m : ℕ → Bool) (up : IsStrictlyIncreasing xs) (below : All (λ v. v < g.nodes) xs) where
  -- the nodes that the filling adds
  abbrev is_added : ℕ → Bool
  is_added v = idle g (has xs) m v && nat_lt (count v (idle g (has xs) m)) (wanting g (has xs) m)

  -- an idle node is one of the set
  idle_in : (v : ℕ) → idle g (has xs) m v ≡ true → has xs v ≡ true
  idle_in v h = (and_parts (has xs v) (not (counting g (has xs) m v)) h).0

  -- before the first node
  pub filled_to_none : (counted : ℕ) → counted ≡ size g (counting g (has xs) m) → IsFilledTo g xs m 0 m counted
  unfolding has
  filled_to_none counted same = record {
    nodes = λ v. or_none (m v);
    total = omega (arith, same, prefix_count_none g.nodes xs (idle g (has xs) m));
  }
    where
      or_none : (b : Bool) → b ≡ (b || false)
      or_none true = refl
      or_none false = refl

  -- after the last
  pub filled_to_all : (i : ℕ) (w : ℕ → Bool) (counted : ℕ) → length xs ≤ i → IsFilledTo g xs m i w counted → (v : ℕ) → w v ≡ filled g (has xs) m v
  filled_to_all i w counted end to v = to.nodes v ∙ ap (λ b. m v || b) (ap (λ b. b && is_added v) (prefix_all xs i v end) ∙ absorbs (has xs v) (counting g (has xs) m v) (nat_lt (count v (idle g (has xs) m)) (wanting g (has xs) m)))
    where
      absorbs : (a b c : Bool) → (a && ((a && not b) && c)) ≡ ((a && not b) && c)
      absorbs true b c = refl
      absorbs false b c = refl

  module _ (i : ℕ) (w : ℕ → Bool) (counted : ℕ) (l : i < length xs) (to : IsFilledTo g xs m i w counted) (v : ℕ) (is : v ≡ get_or xs i 0) where
    -- the node at hand
    abbrev here : ℕ
    here = get_or xs i 0

    -- the idle nodes before it
    before : size g (meet (has (take i xs)) (idle g (has xs) m)) ≡ count here (idle g (has xs) m)
    before = prefix_count g.nodes xs i (idle g (has xs) m) up below l idle_in

    -- and with it
    with_it : size g (meet (has (take (i + 1) xs)) (idle g (has xs) m)) ≡ size g (meet (has (take i xs)) (idle g (has xs) m)) + one_if (idle g (has xs) m here)
    with_it = prefix_count_more g.nodes xs i (idle g (has xs) m) up below l

    -- it was a monitor before or not as it is now
    unchanged : w here ≡ m here
    unchanged = to.nodes here ∙ ap (λ b. m here || (b && is_added here)) (prefix_new xs i up l) ∙ or_none (m here)
      where
        or_none : (b : Bool) → (b || false) ≡ b
        or_none true = refl
        or_none false = refl

    -- a node that is not to be added is passed over
    pub filled_to_skip : is_added here ≡ false → IsFilledTo g xs m (i + 1) w counted
    filled_to_skip out = record {
      nodes = λ u. to.nodes u ∙ ap (λ b. m u || b) (sym (ap (λ b. b && is_added u) (prefix_more xs i u l) ∙ no_more (has (take i xs) u) (here == u) (is_added u) (λ e. subst (λ z. is_added z ≡ false) (eqb-true here u e) out)));
      total = elim (cases_Bool (idle g (has xs) m here)) [
        | inl e ↦
            let late : nat_lt (count here (idle g (has xs) m)) (wanting g (has xs) m) ≡ false = sym (ap (λ b. b && nat_lt (count here (idle g (has xs) m)) (wanting g (has xs) m)) e) ∙ out in
            omega (arith, to.total, before, with_it, not_lt (count here (idle g (has xs) m)) (wanting g (has xs) m) late)
        | inr e ↦ let none : one_if (idle g (has xs) m here) ≡ 0 = ap one_if e in omega (arith, to.total, with_it, none)
      ];
    }
      where
        no_more : (a b c : Bool) → (b ≡ true → c ≡ false) → ((a || b) && c) ≡ (a && c)
        no_more true b c h = refl
        no_more false true c h = h refl
        no_more false false c h = refl

        not_lt : (a b : ℕ) → nat_lt a b ≡ false → b ≤ a
        not_lt a b h = elim (cases_lt a b) [ inl lt ↦ absurd (both_ways (nat_lt a b) h (lt-ltb a b lt)) | inr ge ↦ ge ]

    -- where three nodes count, no further one is added
    pub filled_enough : 3 ≤ counted → IsFilledTo g xs m (i + 1) w counted
    filled_enough three = filled_to_skip (and_out (idle g (has xs) m here) (le-ltb (count here (idle g (has xs) m)) (wanting g (has xs) m) (omega (arith, to.total, before, three))))
      where
        and_out : (a : Bool) {b : Bool} → b ≡ false → (a && b) ≡ false
        and_out true e = e
        and_out false e = refl

    -- a node that counts is not added
    pub filled_counting : (w v || touches g (complement (has xs)) v) ≡ true → IsFilledTo g xs m (i + 1) w counted
    filled_counting counts = filled_to_skip (not_idle (has xs here) (m here) (touches g (complement (has xs)) here) _ (sym (ap (λ b. b || touches g (complement (has xs)) here) unchanged) ∙ subst (λ z. (w z || touches g (complement (has xs)) z) ≡ true) is counts))
      where
        not_idle : (x a b c : Bool) → (a || b) ≡ true → ((x && not (x && (a || b))) && c) ≡ false
        not_idle true true b c h = refl
        not_idle true false true c h = refl
        not_idle true false false c h = absurd (both_ways false refl h)
        not_idle false a b c h = refl

    -- another is, while fewer than three count
    pub filled_more : (next : ℕ → Bool) → counted < 3 → (w v || touches g (complement (has xs)) v) ≡ false → ((u : ℕ) → next u ≡ ((v == u) || w u)) → IsFilledTo g xs m (i + 1) next (counted + 1)
    filled_more next few counts adds =
        let is_idle : idle g (has xs) m here ≡ true = idles (has xs here) (m here) (touches g (complement (has xs)) here) (has-at xs i 0 l) (sym (ap (λ b. b || touches g (complement (has xs)) here) unchanged) ∙ subst (λ z. (w z || touches g (complement (has xs)) z) ≡ false) is counts) in
        let one : one_if (idle g (has xs) m here) ≡ 1 = ap one_if is_idle in
        let early : count here (idle g (has xs) m) < wanting g (has xs) m = omega (arith, to.total, before, few) in
        let new : is_added here ≡ true = ap (λ b. b && nat_lt (count here (idle g (has xs) m)) (wanting g (has xs) m)) is_idle ∙ lt-ltb (count here (idle g (has xs) m)) (wanting g (has xs) m) early in
        record {
          nodes = λ u. adds u ∙ ap (λ z. (z == u) || w u) is ∙ ap (λ b. (here == u) || b) (to.nodes u) ∙ regroup (here == u) (m u) (has (take i xs) u) (is_added u) (λ e. subst (λ z. is_added z ≡ true) (eqb-true here u e) new)
              ∙ ap (λ b. m u || (b && is_added u)) (sym (prefix_more xs i u l));
          total = omega (arith, to.total, before, with_it, one, early);
        }
      where
        idles : (x a b : Bool) → x ≡ true → (a || b) ≡ false → (x && not (x && (a || b))) ≡ true
        idles true true b e h = absurd (both_ways true h refl)
        idles true false true e h = absurd (both_ways true h refl)
        idles true false false e h = refl
        idles false a b e h = absurd (both_ways false refl e)

        regroup : (e a p c : Bool) → (e ≡ true → c ≡ true) → (e || (a || (p && c))) ≡ (a || ((p || e) && c))
        regroup true true p c h = refl
        regroup true false true c h = sym (h refl)
        regroup true false false c h = sym (h refl)
        regroup false true p c h = refl
        regroup false false true c h = refl
        regroup false false false c h = refl

-- counting the nodes of a list that count: one node more
pub counted_more : (g : Network) (xs : List ℕ) (m : ℕ → Bool) (i counted v : ℕ) (b : Bool) → IsStrictlyIncreasing xs → All (λ v. v < g.nodes) xs → i < length xs → v ≡ get_or xs i 0
    → b ≡ (m v || touches g (complement (has xs)) v) → counted ≡ size g (meet (has (take i xs)) (counting g (has xs) m)) → counted + one_if b ≡ size g (meet (has (take (i + 1) xs)) (counting g (has xs) m))
counted_more g xs m i counted v b up below l is counts so_far =
    let at : counting g (has xs) m (get_or xs i 0) ≡ b = ap (λ a. a && (m (get_or xs i 0) || touches g (complement (has xs)) (get_or xs i 0))) (has-at xs i 0 l) ∙ sym (subst (λ z. b ≡ (m z || touches g (complement (has xs)) z)) is counts) in
    omega (arith, so_far, prefix_count_more g.nodes xs i (counting g (has xs) m) up below l, ap one_if at)

-- those so far are no more than all
pub counted_within : (g : Network) (xs : List ℕ) (m : ℕ → Bool) (i : ℕ) → size g (meet (has (take i xs)) (counting g (has xs) m)) ≤ size g (counting g (has xs) m)
counted_within g xs m i = count-mono g.nodes (meet (has (take i xs)) (counting g (has xs) m)) (counting g (has xs) m) (λ v l h. (and_parts (has (take i xs) v) (counting g (has xs) m v) h).1)

-- where three nodes count, the set is filled
pub filled_as_is : (g : Network) (xs : List ℕ) (m : ℕ → Bool) (v : ℕ) → 3 ≤ size g (counting g (has xs) m) → m v ≡ filled g (has xs) m v
filled_as_is g xs m v three = none_more (m v) (idle g (has xs) m v) (le-ltb (count v (idle g (has xs) m)) (wanting g (has xs) m) (omega (arith, three)))
  where
    none_more : (a b : Bool) {c : Bool} → c ≡ false → a ≡ (a || (b && c))
    none_more true b e = refl
    none_more false true e = sym e
    none_more false false e = refl

-- at last all of them are counted
pub counted_all : (g : Network) (xs : List ℕ) (m : ℕ → Bool) (i counted : ℕ) → length xs ≤ i → counted ≡ size g (meet (has (take i xs)) (counting g (has xs) m)) → counted ≡ size g (counting g (has xs) m)
counted_all g xs m i counted end so_far = so_far ∙ count-same g.nodes (meet (has (take i xs)) (counting g (has xs) m)) (counting g (has xs) m)
    (λ v l. ap (λ b. b && counting g (has xs) m v) (prefix_all xs i v end) ∙ twice (has xs v) (m v || touches g (complement (has xs)) v))
  where
    twice : (a b : Bool) → (a && (a && b)) ≡ (a && b)
    twice true b = refl
    twice false b = refl

-- ---- a list of sets

-- the sets of a longer list are filled
pub filled_each_more : (g : Network) (sets : List (List ℕ)) (x : List ℕ) (m : ℕ → Bool) → filled_each g (sets ++ x ∷ []) m ≡ filled g (has x) (filled_each g sets m)
filled_each_more g [] x m = refl
filled_each_more g (y ∷ sets) x m = filled_each_more g sets x (filled g (has y) m)

-- one set more
pub fill_more : (g : Network) (sets : List (List ℕ)) (i : ℕ) (x : List ℕ) (m w next : ℕ → Bool) → i < length sets → x ≡ get_or sets i [] → ((v : ℕ) → w v ≡ filled_each g (take i sets) m v)
    → ((v : ℕ) → next v ≡ filled g (has x) w v) → (v : ℕ) → next v ≡ filled_each g (take (i + 1) sets) m v
fill_more g sets i x m w next l is so_far here v =
    let before : w ≡ filled_each g (take i sets) m = λ j u. so_far u j in
    here v ∙ ap (λ q. filled g (has x) q v) before ∙ ap (λ y. filled g (has y) (filled_each g (take i sets) m) v) is
    ∙ ap (λ q. q v) (sym (ap (λ ys. filled_each g ys m) (take_more sets i [] l) ∙ filled_each_more g (take i sets) (get_or sets i []) m))

-- at last all are filled
pub fill_all : (g : Network) (sets : List (List ℕ)) (i : ℕ) (m w : ℕ → Bool) → length sets ≤ i → ((v : ℕ) → w v ≡ filled_each g (take i sets) m v) → (v : ℕ) → w v ≡ filled_each g sets m v
fill_all g sets i m w end so_far v = so_far v ∙ ap (λ ys. filled_each g ys m v) (take_all i sets end)

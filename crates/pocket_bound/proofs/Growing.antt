-- One monitor more: its home joins what the homes of the monitors before it have gathered.
use Rattle.std.proofs.Common.{ℕ, ◌≡◌, ◌+◌, ◌<◌, ◌≤◌, ◌&&◌, ◌||◌, ◌==◌, not, cond, Bool, true, false, ◌↔◌, List, [], replicate, length, get_or, take, slice_index, All, IsTrue, inl, inr, refl, sym, ap, ◌∙◌, subst, arith}
use Rattle.std.specs.List.Sorted.{IsStrictlyIncreasing}
use Rattle.std.proofs.lemmas.Bool.{true≢false, cases_eq, and_parts, or_cases, eqb-true, eq-eqb, ne_eqb}
use Rattle.std.proofs.lemmas.List.{length-take-le, get_or-take, length-replicate, get_or-replicate}
use Rattle.std.proofs.lemmas.List.Elements.{All-from_get_or}
use Rattle.std.proofs.lemmas.List.Kept.{AllPairs-from_increasing}
use Rattle.tomo_base.specs.Network.{Network}
use Rattle.tomo_base.specs.Sets.{has, minus}
use Rattle.tomo_base.specs.Pockets.{IsHome, IsOwnPocket}
use Rattle.tomo_base.proofs.Ascending.{place_in}
use Rattle.tomo_base.proofs.Counts.{count-le}
use Rattle.tomo_base.proofs.Members.{count-has}
use Rattle.ident_laws.specs.Labels.{AreJoined, LabelsBegin, LabelsGrow}
use Rattle.pocket_bound.specs.HomeLabels.{AreHomeLabels}
use Rattle.pocket_bound.proofs.Joining.{has_next, same_joined}

-- the numbers before place i of an ascending list are less than the one there
less_before : (xs : List ℕ) (i y : ℕ) → IsStrictlyIncreasing xs → i < length xs → has (take i xs) y ≡ true → y < get_or xs i 0
less_before xs i y up l h =
    let at = place_in (take i xs) y h in
    let lt : at.0 < i = omega (arith, at.1, length-take-le i xs (omega arith)) in
    let there : get_or xs at.0 0 ≡ y = sym (get_or-take i xs at.0 0 lt) ∙ at.2 in
    omega (arith, there, AllPairs-from_increasing xs up at.0 i 0 lt l)

-- a set of nodes has at most as many as there are
pub few_members : (n : ℕ) (m : List ℕ) → IsStrictlyIncreasing m → All (λ v. v < n) m → length m ≤ n
few_members n m up below = omega (arith, count-has n m up below, count-le n (has m))

-- the labels are below the next one
pub next_above : (g : Network) (m k : ℕ → Bool) (b : ℕ) (labels : List ℕ) → AreHomeLabels g m k b labels → All (λ l. l < b + 1) labels
next_above g m k b labels are = All-from_get_or (λ l. l < b + 1) labels 0 (λ v l. omega (arith, are.gather.at_most v (omega (arith, l, are.one_each))))

-- before the first monitor nothing is gathered
pub none_gathered : (g : Network) (m forced : ℕ → Bool) (labels : List ℕ) → LabelsBegin → labels ≡ replicate g.nodes 0 → AreHomeLabels g m (minus (has []) forced) 0 labels
unfolding has
none_gathered g m forced labels law bare = record {
  one_each = ap (λ xs. length xs) bare ∙ length-replicate g.nodes 0;
  home = λ x v. false;
  homes = λ x l h. absurd (true≢false (sym h));
  gather = law g (λ x v. false) (minus (has []) forced) (slice_index labels) (λ v l. ap (λ xs. slice_index xs v) bare ∙ get_or-replicate g.nodes v 0 0 l) (λ x l h. true≢false (sym h));
}

module _ (g : Network) (m forced : ℕ → Bool) (xs : List ℕ) (i : ℕ) (l : i < length xs) (up : IsStrictlyIncreasing xs) (labels new nodes : List ℕ)
    (was : AreHomeLabels g m (minus (has (take i xs)) forced) i labels) (is_node : get_or xs i 0 < g.nodes) (free : forced (get_or xs i 0) ≡ false)
    (is_home : IsHome g m (get_or xs i 0) (has nodes)) where
  -- the new monitor
  abbrev x : ℕ
  x = get_or xs i 0

  -- the members before it
  abbrev done : ℕ → Bool
  done = minus (has (take i xs)) forced

  -- and with it
  abbrev more : ℕ → Bool
  more = minus (has (take (i + 1) xs)) forced

  -- the homes with the new one
  grown : ℕ → ℕ → Bool
  grown y v = cond (x == y) (has nodes v) (was.home y v)

  -- one member more
  more_is : (y : ℕ) → more y ≡ (done y || (x == y))
  more_is y = rw (has_next xs i 0 y l) (elim (cases_eq x y) [
    | inl e ↦ rw (eq-eqb x y e, sym (ap forced e) ∙ free) (taken (has (take i xs) y))
    | inr ne ↦ rw (ne_eqb x y ne) (as_before (has (take i xs) y) (forced y))
  ])
    where
      taken : (a : Bool) → ((true || a) && not false) ≡ ((a && not false) || true)
      taken a = grind arith

      as_before : (a b : Bool) → ((false || a) && not b) ≡ ((a && not b) || false)
      as_before a b = grind arith

  -- a member before it is another
  other : (y : ℕ) → done y ≡ true → x ≡ y → ⊥
  other y d e = omega (arith, e, less_before xs i y up l (and_parts (has (take i xs) y) (not (forced y)) d).0)

  -- the homes of the members before stay
  kept : (y v : ℕ) → done y ≡ true → grown y v ≡ was.home y v
  unfolding grown
  kept y v d = rw (ne_eqb x y (other y d)) refl

  -- the new one is that of x
  here : (v : ℕ) → grown x v ≡ has nodes v
  unfolding grown
  here v = rw (eq-eqb x x refl) refl

  -- each is a home
  homes : (y : ℕ) → y < g.nodes → more y ≡ true → IsHome g m y (grown y)
  homes y ly h v lv = elim (or_cases (done y) (x == y) (sym (more_is y) ∙ h)) [
    | inl d ↦ rw (kept y v d) (was.homes y ly d v lv)
    | inr e ↦ subst (λ z. IsTrue (grown z v) ↔ ((s : ℕ → Bool) → IsOwnPocket g m z s → IsTrue (s v))) (eqb-true x y e) (rw (here v) (is_home v lv))
  ]

  -- so the labels have gathered one home more
  pub gathered : LabelsGrow → length new ≡ length labels → AreJoined (length labels) (slice_index labels) (has nodes) (i + 1) (slice_index new) → AreHomeLabels g m more (i + 1) new
  gathered law size joined = record {
    one_each = size ∙ was.one_each;
    home = grown;
    homes = homes;
    gather = law g was.home grown done more i (i + 1) x (slice_index labels) (slice_index new) was.gather (omega arith) is_node (λ y ly. more_is y) (λ y v ly lv d. kept y v d)
        (here x ∙ (is_home x is_node).1 (λ s own. own.holds))
        (same_joined g.nodes (slice_index labels) (has nodes) (grown x) (i + 1) (slice_index new) here (subst (λ n. AreJoined n (slice_index labels) (has nodes) (i + 1) (slice_index new)) was.one_each joined));
  }

module _ (g : Network) (m forced : ℕ → Bool) (xs : List ℕ) (i : ℕ) (l : i < length xs) (labels : List ℕ)
    (was : AreHomeLabels g m (minus (has (take i xs)) forced) i labels) (held : forced (get_or xs i 0) ≡ true) where
  -- a forced node adds no member
  no_more : (y : ℕ) → minus (has (take (i + 1) xs)) forced y ≡ minus (has (take i xs)) forced y
  no_more y = rw (has_next xs i 0 y l) (elim (cases_eq (get_or xs i 0) y) [
    | inl e ↦ rw (sym (ap forced e) ∙ held) (neither (get_or xs i 0 == y) (has (take i xs) y))
    | inr ne ↦ rw (ne_eqb (get_or xs i 0) y ne) refl
  ])
    where
      neither : (a b : Bool) → ((a || b) && not true) ≡ (b && not true)
      neither a b = grind arith

  -- so the labels have gathered the same homes
  pub passed : AreHomeLabels g m (minus (has (take (i + 1) xs)) forced) (i + 1) labels
  passed = record {
    one_each = was.one_each;
    home = was.home;
    homes = λ y ly more. was.homes y ly (sym (no_more y) ∙ more);
    gather = record {
      at_most = λ v lv. omega (arith, was.gather.at_most v lv);
      placed = λ y ly more. was.gather.placed y ly (sym (no_more y) ∙ more);
      owned = λ v lv one. (let of = was.gather.owned v lv one in (of.0, of.1, no_more of.0 ∙ of.2, of.3));
      together = λ u v lu lv one same p whole. was.gather.together u v lu lv one same p (λ y ly done. whole y ly (no_more y ∙ done));
    };
  }

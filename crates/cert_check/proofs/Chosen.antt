-- Forced and barred nodes that are good at each place are good, and are looked for among the monitors that are nodes.
use Rattle.std.proofs.Common.{◌≡◌, ◌<◌, ◌≤◌, ◌+◌, ◌==◌, ◌&&◌, ◌||◌, nat_lt, ℕ, Bool, true, false, List, [], length, take, get_or, arith, All, sym, subst, ◌∙◌, refl, inl, inr}
use Rattle.std.proofs.lemmas.Bool.{both_ways, cases_Bool, cases_eq, eq-eqb, le-ltb, lt-ltb, ne_eqb}
use Rattle.std.proofs.lemmas.List.{get_or_default}
use Rattle.tomo_base.specs.Network.{Network}
use Rattle.tomo_base.specs.Sets.{has}
use Rattle.tomo_base.proofs.Ascending.{All-has, has-more}
use Rattle.plan_form.specs.Good.{AreGoodForced, AreGoodBarred}
use Rattle.cert_check.specs.Faults.{AllPlaces, IsChosenAt, IsGoodForcedAt, IsGoodBarredAt, IsFirstBad}
use Rattle.cert_check.proofs.Places.{ascending_at, ascending_from}

-- the set has the numbers below n of the list
abbrev pub HasBelow : ℕ → List ℕ → (ℕ → Bool) → Type 0
HasBelow n numbers set = (v : ℕ) → set v ≡ (nat_lt v n && has numbers v)

-- no number of none
pub below_none : (n : ℕ) (numbers : List ℕ) → HasBelow n (take 0 numbers) (has [])
unfolding has
below_none n numbers v = none (nat_lt v n)
  where
    none : (b : Bool) → false ≡ (b && false)
    none b = grind arith

module _ (n i d v : ℕ) (numbers : List ℕ) (l : i < length numbers) (at : v ≡ get_or numbers i d) where
  -- the numbers with the next one
  next : (w : ℕ) → ((v == w) || has (take i numbers) w) ≡ has (take (i + 1) numbers) w
  next w = has-more (has (take i numbers)) (λ u. false) numbers i d v w l at refl

  -- a number below n was put into the set
  pub below_more : (old new : ℕ → Bool) → v < n → HasBelow n (take i numbers) old → ((w : ℕ) → new w ≡ ((v == w) || old w)) → HasBelow n (take (i + 1) numbers) new
  below_more old new lt below is w = elim (cases_eq v w) [
    | inl e ↦ is w ∙ rw (← (next w), eq-eqb v w e, lt-ltb w n (subst (λ u. u < n) e lt)) refl
    | inr ne ↦ is w ∙ (rw (← (next w), ne_eqb v w ne) (below w))
  ]

  -- a number from n on was left out
  pub below_same : (set : ℕ → Bool) → n ≤ v → HasBelow n (take i numbers) set → HasBelow n (take (i + 1) numbers) set
  below_same set le below w = elim (cases_eq v w) [
    | inl e ↦ below w ∙ rw (le-ltb w n (subst (λ u. n ≤ u) e le)) refl
    | inr ne ↦ rw (← (next w), ne_eqb v w ne) (below w)
  ]

-- the first place without a property is the first without one that comes to the same
first_same : (P Q : ℕ → Type 0) (n i : ℕ) → ((j : ℕ) → P j → Q j) → ((j : ℕ) → Q j → P j) → IsFirstBad n P i → IsFirstBad n Q i
first_same P Q n i there back first = (first.0, (λ j l. there j (first.1.0 j l), λ q. first.1.1 (back i q)))

module _ (n : ℕ) (monitors : List ℕ) (set : ℕ → Bool) (same : HasBelow n monitors set) where
  -- below n the set has what the list has
  here : (v : ℕ) → v < n → set v ≡ has monitors v
  here v l = same v ∙ rw (lt-ltb v n l) refl

  -- a chosen node is a good forced node
  forced_of : (forced : List ℕ) (i : ℕ) → IsChosenAt n set true forced i → IsGoodForcedAt n monitors forced i
  forced_of forced i at = record { ascends = at.ascends; monitor = sym (here (get_or forced i 0) at.ascends.below) ∙ at.as_asked }

  -- a good forced node is a chosen one
  of_forced : (forced : List ℕ) (i : ℕ) → IsGoodForcedAt n monitors forced i → IsChosenAt n set true forced i
  of_forced forced i at = record { ascends = at.ascends; as_asked = here (get_or forced i 0) at.ascends.below ∙ at.monitor }

  -- a node that is no monitor is a good barred node, where forced nodes are monitors
  barred_of : (forced barred : List ℕ) (i : ℕ) → All (λ v. has monitors v ≡ true) forced → IsChosenAt n set false barred i → IsGoodBarredAt n forced monitors barred i
  barred_of forced barred i are at = record {
    ascends = at.ascends;
    unforced = elim (cases_Bool (has forced (get_or barred i 0))) [
      | inl in_forced ↦ absurd (both_ways _ out (All-has (λ v. has monitors v ≡ true) forced are (get_or barred i 0) in_forced))
      | inr free ↦ free
    ];
    no_monitor = out;
  }
    where
      out : has monitors (get_or barred i 0) ≡ false
      out = sym (here (get_or barred i 0) at.ascends.below) ∙ at.as_asked

  -- a good barred node is no monitor
  of_barred : (forced barred : List ℕ) (i : ℕ) → IsGoodBarredAt n forced monitors barred i → IsChosenAt n set false barred i
  of_barred forced barred i at = record { ascends = at.ascends; as_asked = here (get_or barred i 0) at.ascends.below ∙ at.no_monitor }

  -- the first that is not chosen is the first that is no good forced node
  pub forced_first : (forced : List ℕ) (i : ℕ) → IsFirstBad (length forced) (IsChosenAt n set true forced) i → IsFirstBad (length forced) (IsGoodForcedAt n monitors forced) i
  forced_first forced i first = first_same _ _ (length forced) i (forced_of forced) (of_forced forced) first

  -- where all are chosen, all are good forced nodes
  pub forced_all : (forced : List ℕ) → AllPlaces (length forced) (IsChosenAt n set true forced) → AllPlaces (length forced) (IsGoodForcedAt n monitors forced)
  forced_all forced each i l = forced_of forced i (each i l)

  -- the first that is a monitor, or no node, is the first that is no good barred node
  pub barred_first : (forced barred : List ℕ) (i : ℕ) → All (λ v. has monitors v ≡ true) forced → IsFirstBad (length barred) (IsChosenAt n set false barred) i → IsFirstBad (length barred) (IsGoodBarredAt n forced monitors barred) i
  barred_first forced barred i are first = first_same _ _ (length barred) i (λ j. barred_of forced barred j are) (of_barred forced barred) first

  -- where none is a monitor, all are good barred nodes
  pub barred_all : (forced barred : List ℕ) → All (λ v. has monitors v ≡ true) forced → AllPlaces (length barred) (IsChosenAt n set false barred) → AllPlaces (length barred) (IsGoodBarredAt n forced monitors barred)
  barred_all forced barred are each i l = barred_of forced barred i are (each i l)

-- forced nodes that are good at each place are good
pub forced_from : (g : Network) (monitors forced : List ℕ) → AllPlaces (length forced) (IsGoodForcedAt g.nodes monitors forced) → AreGoodForced g monitors forced
forced_from g monitors forced each =
    let whole = ascending_from g.nodes forced (λ j l. (each j l).ascends) in
    record { nodes = whole.0; ascending = whole.1; are_monitors = λ k d l. subst (λ v. has monitors v ≡ true) (get_or_default forced k 0 d l) (each k l).monitor }

-- good forced nodes are good at each place
pub forced_at : (g : Network) (monitors forced : List ℕ) → AreGoodForced g monitors forced → AllPlaces (length forced) (IsGoodForcedAt g.nodes monitors forced)
forced_at g monitors forced good i l = record { ascends = ascending_at g.nodes forced good.nodes good.ascending i l; monitor = good.are_monitors i 0 l }

-- barred nodes that are good at each place are good
pub barred_from : (g : Network) (forced monitors barred : List ℕ) → AllPlaces (length barred) (IsGoodBarredAt g.nodes forced monitors barred) → AreGoodBarred g forced monitors barred
barred_from g forced monitors barred each =
    let whole = ascending_from g.nodes barred (λ j l. (each j l).ascends) in
    record {
      nodes = whole.0;
      ascending = whole.1;
      unforced = λ k d l. subst (λ v. has forced v ≡ false) (get_or_default barred k 0 d l) (each k l).unforced;
      no_monitors = λ k d l. subst (λ v. has monitors v ≡ false) (get_or_default barred k 0 d l) (each k l).no_monitor;
    }

-- good barred nodes are good at each place
pub barred_at : (g : Network) (forced monitors barred : List ℕ) → AreGoodBarred g forced monitors barred → AllPlaces (length barred) (IsGoodBarredAt g.nodes forced monitors barred)
barred_at g forced monitors barred good i l = record {
  ascends = ascending_at g.nodes barred good.nodes good.ascending i l;
  unforced = good.unforced i 0 l;
  no_monitor = good.no_monitors i 0 l;
}

-- The ears of an order, put one after the other into the order of the nodes.
use Rattle.std.proofs.Common.{◌≡◌, ℕ, suc, ◌+◌, ◌-◌, ◌<◌, ◌≤◌, List, [], ◌∷◌, length, get_or, take, replicate, All, Bool, true, false, refl, sym, subst, ap, ◌∙◌, inl, inr, arith, take_all}
use Rattle.std.proofs.lemmas.Bool.{both_ways, or_cases, cases_lt}
use Rattle.std.proofs.lemmas.List.{length-replicate, get_or-replicate, get_or_past}
use Rattle.tomo_base.specs.Network.{Network, IsGraph}
use Rattle.tomo_base.specs.Sets.{has}
use Rattle.tomo_base.specs.Walks.{NoneTwice}
use Rattle.tomo_base.specs.Search.{entry_at}
use Rattle.tomo_base.proofs.Ascending.{has-at, All-has}
use Rattle.ear_order.specs.Ears.{IsEar, with_ear, AreEarsAfter, ends_of, IsEarOrder, in_ears, IsOrder, Ears}
use Rattle.ear_order.specs.Turns.{between, ContinuesWith, IsEither}
use Rattle.ear_order.proofs.Lists.{ear_at}
use Rattle.ear_order.proofs.Places.{EarAt}
use Rattle.ear_order.proofs.Spots.{either_ear, ear_all}
use Rattle.ear_order.proofs.Ordering.{after, order_marks, ends_differ}
use Rattle.indep_trees.specs.Placing.{In, Numbered, StandsBefore, IsWidened, AreGiven}
use Rattle.indep_trees.proofs.Sublists.{in_gives}
use Rattle.indep_trees.proofs.LaterEars.{numbered_none, numbered_same}
use Rattle.indep_trees.proofs.Ears.{ear_in, after_more, one_more}

-- all ears of an order are ears after its two ends
ears_after : (g : Network) (r t u : ℕ) (es : List (List ℕ)) → IsEarOrder g r t u es → AreEarsAfter g u (ends_of r t) es
unfolding AreEarsAfter
ears_after g r t u [] none = absurd none
ears_after g r t u (e ∷ es) o = (o.ear, inl (o.goes_on, o.later))

-- the ear at a place
pub ear_of : (o : Ears) → IsOrder o → (r t : ℕ) → r ≡ o.r → t ≡ o.t → (i : ℕ) → i < length o.list → (ear : List ℕ) → ear ≡ get_or o.list i []
    → IsEar o.graph (after (ends_of r t) (take i o.list)) ear × ContinuesWith o.graph o.u (after (ends_of r t) (take i o.list)) ear
ear_of o is r t r_is t_is i l ear e = subst (λ z. IsEar o.graph (after (ends_of r t) (take i o.list)) z × ContinuesWith o.graph o.u (after (ends_of r t) (take i o.list)) z) (sym e)
    (ear_in o.graph o.u (ends_of r t) o.list (subst (λ z. AreEarsAfter o.graph o.u (ends_of r z) o.list) (sym t_is) (subst (λ z. AreEarsAfter o.graph o.u (ends_of z o.t) o.list) (sym r_is) (ears_after o.graph o.r o.t o.u o.list is.order))) i l)

in_has : (v : ℕ) (l : List ℕ) → In v l → has l v ≡ true
in_has v l s = let i = in_gives v l s in subst (λ w. has l w ≡ true) i.2 (has-at l i.0 0 i.1)

-- its ends stand in the order
pub ends_placed : (g : Network) (r t u : ℕ) (D : ℕ → Bool) (order : List ℕ) (low high ear : ℕ → ℕ) (k : ℕ) (e : List ℕ) → Numbered g r t u D order low high ear k → IsEar g D e
    → (has order (entry_at e 0) ≡ true) × (has order (entry_at e (length e - 1)) ≡ true) × (entry_at e 0 ≡ entry_at e (length e - 1) → ⊥)
ends_placed g r t u D order low high ear k e numbered is_ear =
    let at : EarAt g D (entry_at e) (length e - 1) = ear_at g D e is_ear in
    (in_has (entry_at e 0) order (numbered.has (entry_at e 0) at.starts), in_has (entry_at e (length e - 1)) order (numbered.has (entry_at e (length e - 1)) at.ends), at.distinct 0 (length e - 1) (omega (arith, at.inner_node)) (omega arith))

-- what the loop knows of its ear
pub ear_facts : (g : Network) → IsGraph g → (D : ℕ → Bool) (e old : List ℕ) → IsEither e old → IsEar g D old → (IsEar g D e) × (2 ≤ length e) × NoneTwice e × All (λ v. v < g.nodes) e
ear_facts g graph D e old either is_old =
    let is_ear : IsEar g D e = either_ear g D e old either is_old in
    (is_ear, omega (arith, is_ear.three), is_ear.different, ear_all g graph D e is_ear)

-- at the start
pub placed_none : (o : Ears) → IsOrder o → (r t : ℕ) → r ≡ o.r → t ≡ o.t → (low high ear : ℕ → ℕ) → ((v : ℕ) → ear v ≡ 0) → Numbered o.graph r t o.u (after (ends_of r t) []) (r ∷ t ∷ []) low high ear 1
unfolding after
placed_none o is r t r_is t_is low high ear none = numbered_none o.graph r t o.u low high ear (λ e. ends_differ o.graph o.r o.t o.u is.graph is.ends (sym r_is ∙ (e ∙ t_is))) none

-- one ear more
pub placed_more : (o : Ears) → IsOrder o → (r t : ℕ) → r ≡ o.r → t ≡ o.t → (i : ℕ) → i < length o.list → (ear e order wide low high ears low' high' ears' : List ℕ) → ear ≡ get_or o.list i []
    → Numbered o.graph r t o.u (after (ends_of r t) (take i o.list)) order (entry_at low) (entry_at high) (entry_at ears) (i + 1)
    → IsEither e ear → StandsBefore order (entry_at e 0) (entry_at e (length e - 1)) → IsWidened order e wide
    → AreGiven e (λ j. entry_at e j) low (length e - 2) low' → AreGiven e (λ j. entry_at e (j + 2)) high (length e - 2) high'
    → ((v : ℕ) → between e v ≡ true → entry_at ears' v ≡ i + 1) → ((v : ℕ) → between e v ≡ false → entry_at ears' v ≡ entry_at ears v)
    → Numbered o.graph r t o.u (after (ends_of r t) (take (i + 1) o.list)) wide (entry_at low') (entry_at high') (entry_at ears') (i + 1 + 1)
placed_more o is r t r_is t_is i l ear e order wide low high ears low' high' ears' ear_is numbered either before widened low_given high_given ear_set ear_kept =
    let old = ear_of o is r t r_is t_is i l ear ear_is in
    let D : ℕ → Bool = after (ends_of r t) (take i o.list) in
    let one : suc i ≡ i + 1 = omega arith in
    let two : suc (i + 1) ≡ i + 1 + 1 = omega arith in
    let same : with_ear D ear ≡ after (ends_of r t) (take (i + 1) o.list) = ap (with_ear D) ear_is ∙ (sym (after_more (ends_of r t) o.list i l) ∙ ap (λ j. after (ends_of r t) (take j o.list)) one) in
    subst (λ k. Numbered o.graph r t o.u (after (ends_of r t) (take (i + 1) o.list)) wide (entry_at low') (entry_at high') (entry_at ears') k) two
    (subst (λ z. Numbered o.graph r t o.u z wide (entry_at low') (entry_at high') (entry_at ears') (suc (i + 1))) same
    (one_more o.graph r t o.u D ear e order wide (entry_at low) (entry_at high) (entry_at ears) (entry_at low') (entry_at high') (entry_at ears') (i + 1) numbered old.0 old.1 either before widened
    (λ j l. low_given.1 j (omega (arith, l)) ∙ (let same : j ≡ j + 0 = omega arith in ap (entry_at e) same)) (λ j l. high_given.1 j (omega (arith, l))) ear_set low_given.2 high_given.2 ear_kept))

-- all ears
pub placed_all : (o : Ears) → IsOrder o → (r t : ℕ) → r ≡ o.r → t ≡ o.t → (i : ℕ) → i ≤ length o.list → length o.list ≤ i → (order : List ℕ) (low high ears : ℕ → ℕ)
    → Numbered o.graph r t o.u (after (ends_of r t) (take i o.list)) order low high ears (i + 1) → Numbered o.graph r t o.u (in_ears o.list) order low high ears (length o.list + 1)
placed_all o is r t r_is t_is i low_end high_end order low high ears numbered =
    let end : i ≡ length o.list = omega (arith, low_end, high_end) in
    let all : take i o.list ≡ o.list = take_all i o.list high_end in
    let marks : (v : ℕ) → after (ends_of o.r o.t) o.list v ≡ in_ears o.list v = λ v. sym (order_marks o.graph o.r o.t o.u o.list is.order v) in
    numbered_same o.graph r t o.u (after (ends_of r t) (take i o.list)) (in_ears o.list) order low high ears (length o.list + 1)
    (λ v. ap (λ z. after (ends_of r t) z v) all ∙ (ap (λ z. after (ends_of z t) o.list v) r_is ∙ (ap (λ z. after (ends_of o.r z) o.list v) t_is ∙ marks v)))
    (subst (λ z. Numbered o.graph r t o.u (after (ends_of r t) (take i o.list)) order low high ears (z + 1)) end numbered)

-- only nodes stand in ears
pub in_ears_below : (n : ℕ) (es : List (List ℕ)) → All (λ e. All (λ v. v < n) e) es → (v : ℕ) → in_ears es v ≡ true → v < n
unfolding in_ears
in_ears_below n [] all v h = absurd (both_ways false refl h)
in_ears_below n (e ∷ es) all v h = elim (or_cases (has e v) (in_ears es v) h) [
  | inl here ↦ All-has (λ w. w < n) e (all 0 [] (omega arith)) v here
  | inr later ↦ in_ears_below n es (λ k d l. all (suc k) d (omega (arith, l))) v later
]

-- noughts alone
pub zeros : (n v : ℕ) → entry_at (replicate n 0) v ≡ 0
zeros n v = elim (cases_lt v n) [
  | inl lt ↦ get_or-replicate n v 0 0 lt
  | inr ge ↦ get_or_past (replicate n 0) v 0 (omega (arith, ge, length-replicate {A = ℕ} n 0))
]

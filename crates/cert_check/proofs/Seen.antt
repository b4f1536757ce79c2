-- Pockets that share no node.
use Rattle.std.proofs.Common.{refl, ◌≡◌, ◌<◌, ◌≤◌, ◌+◌, ◌==◌, ◌||◌, ◌⊎◌, ℕ, Bool, true, false, List, length, take, get_or, All, IsTrue, sym, ap, subst, ◌∙◌, inl, inr, arith}
use Rattle.std.specs.List.Sorted.{IsStrictlyIncreasing}
use Rattle.std.proofs.lemmas.List.{get_or-take, length-take}
use Rattle.std.proofs.lemmas.Bool.{cases_Bool, cases_eq, both_ways, or_cases, or_parts}
use Rattle.std.proofs.lemmas.List.Kept.{AllPairs-from_increasing}
use Rattle.tomo_base.specs.Network.{Network}
use Rattle.tomo_base.specs.Pockets.{need_of}
use Rattle.tomo_base.specs.Sets.{has, size, outside}
use Rattle.tomo_base.proofs.Ascending.{All-has, All-from_has, has-more, same_list, place_in}
use Rattle.tomo_base.proofs.Members.{count-has}
use Rattle.plan_form.specs.Parts.{PlanPocket}
use Rattle.plan_form.specs.Good.{IsGoodPocket}
use Rattle.cert_check.specs.Faults.{pocket_at, IsGoodPocketAt}

-- a front of an ascending list ascends
taken_ascends : (xs : List ℕ) (n : ℕ) → IsStrictlyIncreasing xs → IsStrictlyIncreasing (take n xs)
taken_ascends xs n up k l =
    let long = length-take n xs in
    let below : k + 1 < n = omega (arith, l, long) in
    rw (get_or-take n xs k 0 (omega (arith, below)), get_or-take n xs (k + 1) 0 below) (up k (omega (arith, l, long)))

-- a set with one node more of an ascending list
pub set_more : (nodes old new : List ℕ) (i d v : ℕ) → IsStrictlyIncreasing nodes → i < length nodes → v ≡ get_or nodes i d → old ≡ take i nodes → IsStrictlyIncreasing new → ((w : ℕ) → has new w ≡ ((v == w) || has old w)) → new ≡ take (i + 1) nodes
set_more nodes old new i d v up l at was ascends is = same_list new (take (i + 1) nodes) ascends (taken_ascends nodes (i + 1) up)
    (λ w. is w ∙ has-more (has old) (λ u. false) nodes i d v w l at (ap (λ xs. has xs w) was))

-- nodes that need a monitor have at most two outside neighbours
pub need_few : (g : Network) (nodes : List ℕ) → 1 ≤ need_of g (has nodes) → size g (outside g (has nodes)) ≤ 2
need_few g nodes some = omega (arith, some)

-- and nodes with at most two need one
pub few_need : (g : Network) (nodes : List ℕ) → IsStrictlyIncreasing nodes → All (λ v. v < g.nodes) nodes → 1 ≤ length nodes → size g (outside g (has nodes)) ≤ 2 → 1 ≤ need_of g (has nodes)
few_need g nodes up below filled few = omega (arith, count-has g.nodes nodes up below, filled, few)

-- the node is forced, or stands in one of the first i pockets
abbrev pub IsTaken : List ℕ → List PlanPocket → ℕ → ℕ → Type 0
IsTaken forced pockets i w = IsTrue (has forced w) ⊎ ((j : ℕ) × (j < i) × IsTrue (has (pocket_at pockets j).nodes w))

-- the list has exactly these nodes
abbrev pub IsSeen : List ℕ → List PlanPocket → ℕ → List ℕ → Type 0
IsSeen forced pockets i seen = (w : ℕ) → (IsTrue (has seen w) → IsTaken forced pockets i w) × (IsTaken forced pockets i w → IsTrue (has seen w))

-- at first these are the forced nodes
pub seen_forced : (forced : List ℕ) (pockets : List PlanPocket) (seen : List ℕ) → seen ≡ forced → IsSeen forced pockets 0 seen
seen_forced forced pockets seen same w = (λ there. inl (subst (λ xs. has xs w ≡ true) same there), back)
  where
    back : IsTaken forced pockets 0 w → has seen w ≡ true
    back (inl there) = subst (λ xs. has xs w ≡ true) (sym same) there
    back (inr in_pocket) = absurd (omega (arith, in_pocket.1))

-- with the nodes of one pocket more
pub seen_more : (forced : List ℕ) (pockets : List PlanPocket) (i : ℕ) (old new : List ℕ) → IsSeen forced pockets i old → ((w : ℕ) → has new w ≡ (has old w || has (pocket_at pockets i).nodes w)) → IsSeen forced pockets (i + 1) new
seen_more forced pockets i old new seen is w = (
  λ there. elim (or_cases (has old w) (has (pocket_at pockets i).nodes w) (sym (is w) ∙ there)) [
    | inl before ↦ later ((seen w).0 before)
    | inr here ↦ inr (i, omega arith, here)
  ],
  back,
)
  where
    right : (a b : Bool) → b ≡ true → (a || b) ≡ true
    right a b e = grind arith

    left : (a b : Bool) → a ≡ true → (a || b) ≡ true
    left a b e = grind arith

    later : IsTaken forced pockets i w → IsTaken forced pockets (i + 1) w
    later (inl there) = inl there
    later (inr at) = inr (at.0, omega (arith, at.1), at.2)

    back : IsTaken forced pockets (i + 1) w → has new w ≡ true
    back (inl there) = is w ∙ left (has old w) _ ((seen w).1 (inl there))
    back (inr at) = elim (cases_eq at.0 i) [
      | inl same ↦ is w ∙ right (has old w) _ (subst (λ k. has (pocket_at pockets k).nodes w ≡ true) same at.2)
      | inr other ↦ is w ∙ left (has old w) _ ((seen w).1 (inr (at.0, omega (arith, at.1, other), at.2)))
    ]

-- a good pocket with new nodes is good at its place
pub good_at : (g : Network) (forced : List ℕ) (pockets : List PlanPocket) (i : ℕ) (seen : List ℕ) → IsSeen forced pockets i seen → IsGoodPocket g (pocket_at pockets i) → All (λ v. has seen v ≡ false) (pocket_at pockets i).nodes → IsGoodPocketAt g forced pockets i
good_at g forced pockets i seen is good new = record {
  good = good;
  free = λ v node here. elim (cases_Bool (has forced v)) [ inl there ↦ absurd (untaken v here (inl there)) | inr out ↦ out ];
  apart = λ j l v node there. elim (cases_Bool (has (pocket_at pockets i).nodes v)) [ inl here ↦ absurd (untaken v here (inr (j, l, there))) | inr out ↦ out ];
}
  where
    untaken : (v : ℕ) → has (pocket_at pockets i).nodes v ≡ true → IsTaken forced pockets i v → ⊥
    untaken v here taken = both_ways _ (All-has (λ u. has seen u ≡ false) (pocket_at pockets i).nodes new v here) ((is v).1 taken)

-- one that is good at its place has new nodes
pub new_at : (g : Network) (forced : List ℕ) (pockets : List PlanPocket) (i : ℕ) (seen : List ℕ) → IsSeen forced pockets i seen → IsGoodPocketAt g forced pockets i → All (λ v. has seen v ≡ false) (pocket_at pockets i).nodes
new_at g forced pockets i seen is at = All-from_has (λ v. has seen v ≡ false) (pocket_at pockets i).nodes (λ v here. elim (cases_Bool (has seen v)) [
  | inl there ↦ absurd (never v here ((is v).0 there))
  | inr new ↦ new
])
  where
    node : (v : ℕ) → has (pocket_at pockets i).nodes v ≡ true → v < g.nodes
    node v here = All-has (λ u. u < g.nodes) (pocket_at pockets i).nodes at.good.nodes v here

    never : (v : ℕ) → has (pocket_at pockets i).nodes v ≡ true → IsTaken forced pockets i v → ⊥
    never v here (inl there) = both_ways _ (at.free v (node v here) here) there
    never v here (inr before) = both_ways _ (at.apart before.0 before.1 v (node v here) before.2) here

-- a node that was not in the set is not among those that were put into it before, where the nodes ascend
pub still_new : (nodes old seen : List ℕ) (i : ℕ) → IsStrictlyIncreasing nodes → i < length nodes → ((w : ℕ) → has seen w ≡ (has old w || has (take i nodes) w)) → has old (get_or nodes i 0) ≡ false → has seen (get_or nodes i 0) ≡ false
still_new nodes old seen i up l is new = is (get_or nodes i 0) ∙ neither _ _ new (later (get_or nodes i 0) refl)
  where
    neither : (a b : Bool) → a ≡ false → b ≡ false → (a || b) ≡ false
    neither a b e f = grind arith

    later : (v : ℕ) → v ≡ get_or nodes i 0 → has (take i nodes) v ≡ false
    later v same = elim (cases_Bool (has (take i nodes) v)) [
      | inl there ↦
          let at = place_in (take i nodes) v there in
          let below : at.0 < i = omega (arith, at.1, length-take i nodes) in
          let taken : get_or nodes at.0 0 ≡ v = sym (get_or-take i nodes at.0 0 below) ∙ at.2 in
          absurd (omega (arith, AllPairs-from_increasing nodes up at.0 i 0 below l, taken, same))
      | inr out ↦ out
    ]

-- a node that is new to the set was not in it at first
pub been_there : (nodes old seen : List ℕ) (i : ℕ) → ((w : ℕ) → has seen w ≡ (has old w || has (take i nodes) w)) → has seen (get_or nodes i 0) ≡ false → has old (get_or nodes i 0) ≡ false
been_there nodes old seen i is new = (or_parts (has old (get_or nodes i 0)) (has (take i nodes) (get_or nodes i 0)) (sym (is (get_or nodes i 0)) ∙ new)).0

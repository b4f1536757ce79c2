-- What no two nodes part is three-connected, and what two nodes part is not.
use Rattle.std.proofs.Common.{◌≡◌, ℕ, ◌<◌, ◌≤◌, ◌⊎◌, Bool, true, false, not, ◌||◌, ◌==◌, List, [], ◌∷◌, length, replicate, All, IfOk, IfNone, Result, Ok, Err, Option, Some, None, refl, sym, ap, subst, ◌∙◌, inl, inr, arith}
use Rattle.std.proofs.lemmas.Bool.{cases_Bool, both_ways, and_parts, and_from, or_cases, or_left, or_right, not_from_false, not-true, false_from_ne_true, eqb-true, eq-eqb, ne_eqb}
use Rattle.std.proofs.lemmas.List.{get_or-replicate}
use Rattle.std.proofs.lemmas.Bool.Decides.{nat_tests}
use Rattle.std.specs.List.Sorted.{IsStrictlyIncreasing}
use Rattle.tomo_base.specs.Network.{Network, IsGraph}
use Rattle.tomo_base.specs.Sets.{count, has, size, minus, complement}
use Rattle.tomo_base.specs.Walks.{IsConnectedIn, everything}
use Rattle.tomo_base.specs.Search.{mark_of}
use Rattle.tomo_base.specs.Cuts.{IsThreeConnected}
use Rattle.tomo_base.proofs.Counts.{count_two, count-everything, count-mono}
use Rattle.tomo_base.proofs.Members.{count-has, count_has-le}
use Rattle.tomo_base.proofs.Walks.{connected_inside}
use Rattle.tomo_base.proofs.Ascending.{All-from_has}
use Rattle.tomo_base.specs.Parting.{without_two, IsThreeConnectedIn}
use Rattle.three_conn.specs.Parting.{IsParted}
use Rattle.three_conn.specs.Answers.{IsSeparating}
use Rattle.three_conn.specs.declared.known.Parting.{Parting}
use Rattle.tomo_base.specs.declared.memory.NoMemory.{NoMemory}
use Rattle.tomo_base.proofs.Parting.{without_two-from, without_two_gives}
use Rattle.three_conn.proofs.Sides.{parted_apart}

-- a set that no two nodes part is connected without any set of at most two
pub three_connected_in : (g : Network) (w : ℕ → Bool) → IsGraph g → 4 ≤ size g w → ((c d : ℕ) → IsConnectedIn g (without_two w c d)) → IsThreeConnectedIn g w
three_connected_in g w graph four all = record {
  four = four;
  whole = λ q few.
      let two = count_two g.nodes q few in
      let minus_from : (v : ℕ) → w v ≡ true → q v ≡ false → minus w q v ≡ true = λ v t out. and_from (w v) (not (q v)) t (not_from_false (q v) out) in
      let minus_gives : (v : ℕ) → minus w q v ≡ true → (w v ≡ true) × (q v ≡ false) = λ v t. let parts = and_parts (w v) (not (q v)) t in (parts.0, not-true (q v) parts.1) in
      -- the numbers that stand for the set: its members, or none
      let by : (c d : ℕ) → ((v : ℕ) → v < g.nodes → q v ≡ true → (v ≡ c) ⊎ (v ≡ d)) → ((v : ℕ) → v < g.nodes → (v ≡ c) ⊎ (v ≡ d) → q v ≡ true) → IsConnectedIn g (minus w q) = λ c d only both.
      connected_inside g (without_two w c d) (minus w q) graph
      (λ v l t. let at = without_two_gives w c d v t in minus_from v at.0 (false_from_ne_true (q v) (λ h. elim (only v l h) [ inl e ↦ at.1 e | inr e ↦ at.2 e ])))
      (λ v l t. let at = minus_gives v t in without_two-from w c d v at.0 (λ e. both_ways (q v) at.1 (both v l (inl e))) (λ e. both_ways (q v) at.1 (both v l (inr e))))
      (all c d) in
      elim two.3 [
        | inl pair ↦ by two.0 two.1 two.2 (λ v l e. elim e [ inl s ↦ subst (λ z. q z ≡ true) (sym s) pair.1 | inr s ↦ subst (λ z. q z ≡ true) (sym s) pair.2 ])
        | inr same ↦
            let only : (v : ℕ) → v < g.nodes → q v ≡ true → v ≡ two.0 = λ v l h. elim (two.2 v l h) [ inl e ↦ e | inr e ↦ e ∙ sym same ] in
            elim (cases_Bool (q two.0)) [
              | inl there ↦ by two.0 two.0 (λ v l h. inl (only v l h)) (λ v l e. subst (λ z. q z ≡ true) (sym (elim e [ inl s ↦ s | inr s ↦ s ])) there)
              | inr out ↦ by g.nodes g.nodes (λ v l h. absurd (both_ways (q two.0) out (subst (λ z. q z ≡ true) (only v l h) h))) (λ v l e. absurd (elim e [ inl s ↦ omega (arith, l, s) | inr s ↦ omega (arith, l, s) ]))
            ]
      ];
}

-- where all nodes are in the set, so is the graph
pub whole_graph : (g : Network) (w : ℕ → Bool) → IsGraph g → 4 ≤ g.nodes → ((v : ℕ) → v < g.nodes → w v ≡ true) → IsThreeConnectedIn g w → IsThreeConnected g
whole_graph g w graph four all t = record {
  four = four;
  whole = λ q few. connected_inside g (minus w q) (complement q) graph (λ v l h. (and_parts (w v) (not (q v)) h).1) (λ v l h. and_from (w v) (not (q v)) (all v l) h) (t.whole q few);
}

-- and two nodes that part it are such as the answer tells
pub separated : (g : Network) (w side : ℕ → Bool) (c d : ℕ) (nodes : List ℕ) → IsGraph g → 4 ≤ g.nodes → ((v : ℕ) → v < g.nodes → w v ≡ true) → IsParted g w side c d
    → length nodes ≤ 2 → All (λ v. v < g.nodes) nodes → IsStrictlyIncreasing nodes → ((v : ℕ) → v < g.nodes → has nodes v ≡ ((v == c) || (v == d))) → IsSeparating g nodes
separated g w side c d nodes graph four all parted few below up are = record {
  four = four;
  few = few;
  below = below;
  ascending = up;
  apart = λ connected. parted_apart g w side c d parted (connected_inside g (complement (has nodes)) (without_two w c d) graph
      (λ v l h. let out : has nodes v ≡ false = not-true (has nodes v) h in
      without_two-from w c d v (all v l) (λ e. both_ways (has nodes v) out (are v l ∙ or_left (v == c) (v == d) (eq-eqb v c e))) (λ e. both_ways (has nodes v) out (are v l ∙ or_right (v == c) (v == d) (eq-eqb v d e))))
      (λ v l h. let at = without_two_gives w c d v h in not_from_false (has nodes v) (are v l ∙ neither (v == c) (v == d) (ne_eqb v c at.1) (ne_eqb v d at.2))) connected);
}
  where
    neither : (a b : Bool) → a ≡ false → b ≡ false → (a || b) ≡ false
    neither a b h k = grind arith

-- ---- the set of two numbers

-- a number below n was added, where it is one
pub record IsAdded (n c : ℕ) (old new : List ℕ) : Type 0 where
  pub nodes : (v : ℕ) → v < n → has new v ≡ ((c == v) || has old v)
  pub below : ((v : ℕ) → has old v ≡ true → v < n) → (v : ℕ) → has new v ≡ true → v < n
  pub ascending : IsStrictlyIncreasing old → IsStrictlyIncreasing new

pub added : (n c : ℕ) (old new : List ℕ) → c < n → ((v : ℕ) → has new v ≡ ((c == v) || has old v)) → IsStrictlyIncreasing new → IsAdded n c old new
added n c old new l are up = record {
  nodes = λ v k. are v;
  below = λ all v h. elim (or_cases (c == v) (has old v) (sym (are v) ∙ h)) [
    | inl e ↦ let same : c ≡ v = eqb-true c v e in omega (arith, same, l)
    | inr k ↦ all v k
  ];
  ascending = λ _. up;
}

pub not_added : (n c : ℕ) (old : List ℕ) → n ≤ c → IsAdded n c old old
not_added n c old out = record {
  nodes = λ v l. rw (ne_eqb c v (λ e. omega (arith, e, l, out))) refl;
  below = λ all. all;
  ascending = λ up. up;
}

-- two numbers added to the empty set
pub two_added : (n c d : ℕ) (one two : List ℕ) → IsAdded n c [] one → IsAdded n d one two → (length two ≤ 2) × All (λ v. v < n) two × IsStrictlyIncreasing two × ((v : ℕ) → v < n → has two v ≡ ((v == c) || (v == d)))
unfolding has
two_added n c d one two a b =
    let below : (v : ℕ) → has two v ≡ true → v < n = b.below (a.below (λ v h. absurd (both_ways false refl h))) in
    let all : All (λ v. v < n) two = All-from_has (λ v. v < n) two below in
    let nodes : (v : ℕ) → v < n → has two v ≡ ((v == c) || (v == d)) = λ v l. b.nodes v l ∙ (ap (λ z. (d == v) || z) (a.nodes v l) ∙ ordered c d v) in
    let up : IsStrictlyIncreasing two = b.ascending (a.ascending (λ k l. absurd (omega arith))) in
    let size : count n (has two) ≡ length two = count-has n two up all in
    let most : count n (has two) ≤ count n (has (c ∷ d ∷ [])) = count-mono n (has two) (has (c ∷ d ∷ [])) (λ v l h. flipped c d v (sym (nodes v l) ∙ h)) in
    (omega (arith, size, most, count_has-le n (c ∷ d ∷ [])), all, up, nodes)
  where
    ordered : (c d v : ℕ) → ((d == v) || ((c == v) || false)) ≡ ((v == c) || (v == d))
    ordered c d v = grind (arith, nat_tests)

    flipped : (c d v : ℕ) → ((v == c) || (v == d)) ≡ true → ((c == v) || ((d == v) || false)) ≡ true
    flipped c d v h = grind (arith, nat_tests)

-- what follows where nothing was found
pub then_whole : (r : Result (Option Parting) NoMemory) (A B : Type 0) → IfOk r (λ o. IfNone o A) → (A → B) → IfOk r (λ o. IfNone o B)
then_whole (Ok (Some p)) A B h f = h
then_whole (Ok None) A B h f = f h
then_whole (Err e) A B h f = h

-- a set with all of four numbers has four
pub all_marked_size : (n : ℕ) (w : ℕ → Bool) → ((v : ℕ) → v < n → w v ≡ true) → 4 ≤ n → 4 ≤ count n w
all_marked_size n w all four =
    let most : count n everything ≤ count n w = count-mono n everything w (λ v l t. all v l) in
    omega (arith, most, count-everything n, four)

-- all nodes have a mark
pub all_marked : (n m : ℕ) (xs ys : List Bool) → xs ≡ ys → ys ≡ replicate m true → m ≡ n → (v : ℕ) → v < n → mark_of xs v ≡ true
all_marked n m xs ys same are size v l = ap (λ zs. mark_of zs v) (same ∙ are) ∙ get_or-replicate m v true false (omega (arith, l, size))

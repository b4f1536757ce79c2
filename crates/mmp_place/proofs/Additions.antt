-- Filling a set adds the least of its free nodes that are no monitors, as many as are wanting.
use Rattle.std.proofs.Common.{◌≡◌, ℕ, zero, suc, ◌+◌, ◌<◌, ◌≤◌, nat_lt, Bool, true, false, not, ◌&&◌, ◌||◌, IsTrue, refl, ap, arith, inl, inr, lt-ltb, ltb-true}
use Rattle.std.proofs.lemmas.Bool.{cases_Bool, cases_lt, both_ways, and_parts, and_from, or_cases, or_left, or_right}
use Rattle.tomo_base.specs.Network.{Network}
use Rattle.tomo_base.specs.Sets.{one_if, count, size, meet, Within}
use Rattle.tomo_base.proofs.Counts.{one_if-mono, count-mono, count-add}
use Rattle.mmp_place.specs.Rule.{wanting, idle, filled}
use Rattle.mmp_place.proofs.Short.{free, ask, ask_fits, counting_parts, leaves}

-- from m to w, nodes of f are added until k are in; the least come first
pub record IsFilling (g : Network) (f : ℕ → Bool) (k : ℕ) (m w : ℕ → Bool) : Type 0 where
  pub grows : Within m w
  pub only : (v : ℕ) → IsTrue (w v) → m v ≡ false → IsTrue (f v)
  pub exact : (v : ℕ) → v < g.nodes → IsTrue (w v) → m v ≡ false → size g (meet w f) ≡ k
  pub least : (v u : ℕ) → IsTrue (w v) → m v ≡ false → IsTrue (f u) → u < v → IsTrue (w u)
  pub enough : k ≤ size g (meet w f)

-- the least k members of a set
abbrev firsts : (ℕ → Bool) → ℕ → ℕ → Bool
firsts d k v = d v && nat_lt (count v d) k

-- a smaller bound counts no more
count_upto : (j : ℕ) (d : ℕ → Bool) (i : ℕ) → i ≤ j → count i d ≤ count j d
unfolding count
count_upto zero d i l = let e : i ≡ 0 = omega (arith, l) in rw e (omega arith)
count_upto (suc j) d i l = elim (cases_lt i (suc j)) [
  | inl s ↦ omega (arith, count_upto j d i (omega (arith, s)))
  | inr s ↦ let e : i ≡ suc j = omega (arith, l, s) in rw e (omega arith)
]

-- these are at most k
firsts_few : (j : ℕ) (d : ℕ → Bool) (k : ℕ) → count j (firsts d k) ≤ k
unfolding count
firsts_few zero d k = omega arith
firsts_few (suc j) d k = elim (cases_Bool (firsts d k j)) [
  | inl m ↦ omega (
    arith,
    ltb-true (count j d) k (and_parts (d j) (nat_lt (count j d) k) m).1,
    one_if-mono (firsts d k j) true (λ h. refl),
    count-mono j (firsts d k) d (λ v l i. (and_parts (d v) (nat_lt (count v d) k) i).0),
  )
  | inr n ↦ let e : one_if (firsts d k j) ≡ 0 = ap one_if n in omega (arith, e, firsts_few j d k)
]

-- and k where the set has k members
firsts_all : (j : ℕ) (d : ℕ → Bool) (k : ℕ) → k ≤ count j d → k ≤ count j (firsts d k)
unfolding count
firsts_all zero d k l = omega (arith, l)
firsts_all (suc j) d k l = elim (cases_lt (count j d) k) [
  | inr s ↦ omega (arith, firsts_all j d k s)
  | inl s ↦ omega (
    arith,
    l,
    one_if-mono (d j) (firsts d k j) (λ m. and_from (d j) (nat_lt (count j d) k) m (lt-ltb (count j d) k s)),
    count-mono j d (firsts d k) (λ v i m. and_from (d v) (nat_lt (count v d) k) m (lt-ltb (count v d) k (omega (arith, s, count_upto j d v (omega (arith, i)))))),
  )
]

-- one node: free and a monitor after the filling
filled_one : (x m l t : Bool) → one_if ((m || ((x && not (x && (m || l))) && t)) && (x && not l)) ≡ one_if (m && (x && not l)) + one_if ((x && not (x && (m || l))) && t)
filled_one true true true t = refl
filled_one true true false t = refl
filled_one true false true t = refl
filled_one true false false true = refl
filled_one true false false false = refl
filled_one false true l t = refl
filled_one false false l t = refl

-- one free node: a monitor, or idle
free_one : (x m l : Bool) → one_if (x && not l) ≡ one_if (m && (x && not l)) + one_if (x && not (x && (m || l)))
free_one x m l = grind arith

-- an idle node is free and no monitor
idle_free : (x m l : Bool) → (x && not (x && (m || l))) ≡ true → ((x && not l) ≡ true) × (m ≡ false)
idle_free true true l h = absurd (both_ways false refl h)
idle_free true false true h = absurd (both_ways false refl h)
idle_free true false false h = (refl, refl)
idle_free false m l h = absurd (both_ways false refl h)

-- and the other way round
free_idle : (x m l : Bool) → (x && not l) ≡ true → m ≡ false → (x && not (x && (m || l))) ≡ true
free_idle true true l h n = absurd (both_ways true n refl)
free_idle true false true h n = h
free_idle true false false h n = refl
free_idle false m l h n = h

module _ (g : Network) (x m : ℕ → Bool) where
  -- the nodes that are added
  abbrev added : ℕ → Bool
  added v = firsts (idle g x m) (wanting g x m) v

  -- the free monitors after the filling: those before, and what is added
  filled_size : size g (meet (filled g x m) (free g x)) ≡ size g (meet m (free g x)) + size g added
  filled_size = count-add g.nodes (meet (filled g x m) (free g x)) (meet m (free g x)) added (λ v l. filled_one (x v) (m v) (leaves g x v) (nat_lt (count v (idle g x m)) (wanting g x m)))

  -- where the set has three nodes enough are idle
  idle_enough : 3 ≤ size g x → wanting g x m ≤ size g (idle g x m)
  idle_enough three = omega (arith, ask_fits g x three, counting_parts g x m, count-add g.nodes (free g x) (meet m (free g x)) (idle g x m) (λ v l. free_one (x v) (m v) (leaves g x v)))

  -- a node that is new is one of them
  new_added : (v : ℕ) → IsTrue (filled g x m v) → m v ≡ false → IsTrue (added v)
  new_added v h n = elim (or_cases (m v) (added v) h) [ inl i ↦ absurd (both_ways (m v) n i) | inr a ↦ a ]

  -- filling a set of three nodes
  pub filled_is : 3 ≤ size g x → IsFilling g (free g x) (ask g x) m (filled g x m)
  filled_is three =
      let few = firsts_few g.nodes (idle g x m) (wanting g x m) in
      let all = firsts_all g.nodes (idle g x m) (wanting g x m) (idle_enough three) in
      let lacks : (v : ℕ) → IsTrue (added v) → count v (idle g x m) < wanting g x m = λ v a. ltb-true (count v (idle g x m)) (wanting g x m) (and_parts (idle g x m v) (nat_lt (count v (idle g x m)) (wanting g x m)) a).1 in
      let is_idle : (v : ℕ) → IsTrue (added v) → IsTrue (free g x v) = λ v a. (idle_free (x v) (m v) (leaves g x v) (and_parts (idle g x m v) (nat_lt (count v (idle g x m)) (wanting g x m)) a).0).0 in
      record {
        grows = λ v h. or_left (m v) (added v) h;
        only = λ v h n. is_idle v (new_added v h n);
        exact = λ v l h n. omega (arith, lacks v (new_added v h n), few, all, filled_size, counting_parts g x m);
        least = λ v u h n fu uv. elim (cases_Bool (m u)) [
          | inl i ↦ or_left (m u) (added u) i
          | inr i ↦ or_right (m u) (added u) (and_from (idle g x m u) (nat_lt (count u (idle g x m)) (wanting g x m)) (free_idle (x u) (m u) (leaves g x u) fu i)
              (lt-ltb (count u (idle g x m)) (wanting g x m) (omega (arith, lacks v (new_added v h n), count_upto v (idle g x m) u (omega (arith, uv))))))
        ];
        enough = omega (arith, all, filled_size, counting_parts g x m);
      }

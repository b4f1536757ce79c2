-- The paths are taken one after the other in the order of their second nodes.
use Rattle.std.specs.Global.{Global}
use Rattle.std.specs.Option.{is_some}
use Rattle.std.proofs.Common.{ℕ, zero, suc, ◌+◌, ◌<◌, ◌≤◌, ◌≡◌, true, false, not, nat_lt, ◌==◌, eqb, List, [], ◌∷◌, ◌++◌, map, length, get_or, set, sum_by, All, AllPairs, Vec, Option, Some, None, refl, sym, ap, subst, ◌∙◌, arith, inl, inr, length-append}
use Rattle.std.specs.List.{filter}
use Rattle.std.specs.List.Sorted.{IsPermutation}
use Rattle.std.proofs.lemmas.Bool.{cases_eq, cases_lt, cases_Bool, both_ways, eqb-true, eq-eqb, eqb-false, or_parts, false≢true, false_from_ne_true, lt-ltb, le-ltb}
use Rattle.std.proofs.lemmas.List.{append-nil, get_or-map, get_or_default, length-map}
use Rattle.std.proofs.lemmas.List.Elements.{All-push}
use Rattle.std.proofs.lemmas.List.Quantifiers.{all_pairs_push}
use Rattle.std.proofs.lemmas.List.Sorted.{IsPermutation-refl, IsPermutation-cons, IsPermutation-trans, IsPermutation-middle, IsPermutation-pop_more, length_permutation, sum_by-IsPermutation}
use Rattle.std.proofs.lemmas.List.Sums.{sum_by-cons}
use Rattle.tomo_base.specs.Sets.{has}
use Rattle.tomo_base.specs.Walks.{NoneTwice}
use Rattle.tomo_base.proofs.Ascending.{has-at, place_in}
use Rattle.simple_path.specs.Pools.{nodes_in}
use Rattle.simple_path.proofs.Pools.{nodes_in-append}
use Rattle.unit_flow.specs.Flows.{second_of}
use Rattle.unit_flow.specs.Arrays.{on}
use Rattle.unit_flow.specs.Steps.{entry_of}
use Rattle.unit_flow.specs.Order.{AreInOrder, ArePlaces}
use Rattle.unit_flow.proofs.Moves.{put_there, put_else, stays_on}
use Rattle.tomo_base.proofs.Lists.{some_inj}
use Rattle.unit_flow.proofs.Writes.{array_put}

-- the paths whose second node is v or above
abbrev pub from : ℕ → List (List ℕ) → List (List ℕ)
from v ps = filter (λ p. not (nat_lt (second_of p) v)) ps

-- from 0 on these are all
pub from_zero : (ps : List (List ℕ)) → from 0 ps ≡ ps
from_zero [] = refl
from_zero (p ∷ ps) = rw (le-ltb (second_of p) 0 (omega arith)) (ap (λ z. p ∷ z) (from_zero ps))

-- from a number above all second nodes on there is none
pub from_past : (n : ℕ) (ps : List (List ℕ)) → All (λ p. second_of p < n) ps → from n ps ≡ []
from_past n [] below = refl
from_past n (p ∷ ps) below = rw (lt-ltb (second_of p) n (below 0 [] (omega arith))) (from_past n ps (λ k d l. below (suc k) d (omega (arith, l))))

-- where no path has the second node v, it may be left out
pub from_skip : (v : ℕ) (ps : List (List ℕ)) → has (map second_of ps) v ≡ false → from v ps ≡ from (v + 1) ps
unfolding has
from_skip v [] h = refl
from_skip v (p ∷ ps) h =
    let parts = or_parts (second_of p == v) (has (map second_of ps) v) h in
    let rest = from_skip v ps parts.1 in
    let ne : second_of p ≡ v → ⊥ = eqb-false (second_of p) v parts.0 in
    elim (cases_lt (second_of p) v) [
      | inl lt ↦ rw (lt-ltb (second_of p) v lt, lt-ltb (second_of p) (v + 1) (omega (arith, lt))) rest
      | inr ge ↦ rw (le-ltb (second_of p) v ge, le-ltb (second_of p) (v + 1) (omega (arith, ge, ne))) (ap (λ z. p ∷ z) rest)
    ]

-- a second node is in the list of second nodes
second_in : (ps : List (List ℕ)) (i : ℕ) (d : List ℕ) → i < length ps → has (map second_of ps) (second_of (get_or ps i d)) ≡ true
second_in ps i d l =
    subst (λ z. has (map second_of ps) z ≡ true) (get_or-map second_of ps i d 0 l) (has-at (map second_of ps) i 0 (let e : length (map second_of ps) ≡ length ps = length-map ps second_of in omega (arith, e, l)))

-- the path with the second node v, and those above
pub from_take : (v : ℕ) (ps : List (List ℕ)) (i : ℕ) (d : List ℕ) → NoneTwice (map second_of ps) → i < length ps → second_of (get_or ps i d) ≡ v → IsPermutation (from v ps) (get_or ps i d ∷ from (v + 1) ps)
from_take v [] i d once l e = absurd (omega (arith, l))
from_take v (p ∷ ps) zero d once l e =
    let rest : from v ps ≡ from (v + 1) ps = from_skip v ps (ap (has (map second_of ps)) (sym e) ∙ once.0) in
    rw (le-ltb (second_of p) v (omega (arith, e)), lt-ltb (second_of p) (v + 1) (omega (arith, e)), rest) (IsPermutation-refl (p ∷ from (v + 1) ps))
from_take v (p ∷ ps) (suc i) d once l e =
    let inside : i < length ps = omega (arith, l) in
    let rest : IsPermutation (from v ps) (get_or ps i d ∷ from (v + 1) ps) = from_take v ps i d once.1 inside e in
    let ne : second_of p ≡ v → ⊥ = λ same. both_ways (has (map second_of ps) (second_of p)) once.0 (ap (has (map second_of ps)) (same ∙ sym e) ∙ second_in ps i d inside) in
    elim (cases_lt (second_of p) v) [
      | inl lt ↦ rw (lt-ltb (second_of p) v lt, lt-ltb (second_of p) (v + 1) (omega (arith, lt))) rest
      | inr ge ↦ rw (le-ltb (second_of p) v ge, le-ltb (second_of p) (v + 1) (omega (arith, ge, ne)))
          (IsPermutation-trans (p ∷ from v ps) (p ∷ get_or ps i d ∷ from (v + 1) ps) (get_or ps i d ∷ p ∷ from (v + 1) ps)
          (IsPermutation-cons p (from v ps) (get_or ps i d ∷ from (v + 1) ps) rest) (IsPermutation-middle (p ∷ []) (get_or ps i d) (from (v + 1) ps)))
    ]

-- the pool has the paths whose second node is below v, in order
pub record Sorted (ps pool : List (List ℕ)) (v : ℕ) : Type 0 where
  pub order : IsPermutation ps (pool ++ from v ps)
  pub ascending : AllPairs (λ p q. second_of p < second_of q) pool
  pub below : All (λ p. second_of p < v) pool

-- none at the start
pub sorted_none : (ps : List (List ℕ)) → Sorted ps [] 0
sorted_none ps = record {
  order = subst (IsPermutation ps) (sym (from_zero ps)) (IsPermutation-refl ps);
  ascending = λ i j d lt l. absurd (omega (arith, l));
  below = λ k d l. absurd (omega (arith, l));
}

-- no path has the second node v
sorted_skip : (ps pool : List (List ℕ)) (v : ℕ) → has (map second_of ps) v ≡ false → Sorted ps pool v → Sorted ps pool (v + 1)
sorted_skip ps pool v h s = record {
  order = subst (λ z. IsPermutation ps (pool ++ z)) (from_skip v ps h) s.order;
  ascending = s.ascending;
  below = λ k d l. omega (arith, s.below k d l);
}

-- the path that has it is added
sorted_take : (ps pool : List (List ℕ)) (v i : ℕ) (d : List ℕ) → NoneTwice (map second_of ps) → i < length ps → second_of (get_or ps i d) ≡ v → Sorted ps pool v → Sorted ps (pool ++ get_or ps i d ∷ []) (v + 1)
sorted_take ps pool v i d once l e s = record {
  order = IsPermutation-pop_more ps pool (from v ps) (from (v + 1) ps) (get_or ps i d) s.order (from_take v ps i d once l e);
  ascending = all_pairs_push (λ p q. second_of p < second_of q) pool (get_or ps i d) s.ascending (λ k c lk. omega (arith, s.below k c lk, e));
  below = All-push (λ p. second_of p < v + 1) pool (get_or ps i d) (λ k c lk. omega (arith, s.below k c lk)) (omega (arith, e));
}

-- at the end all paths are in order
pub sorted_all : (ps pool : List (List ℕ)) (n : ℕ) → All (λ p. second_of p < n) ps → Sorted ps pool n → AreInOrder ps pool
sorted_all ps pool n below s = record { same = subst (IsPermutation ps) (ap (λ z. pool ++ z) (from_past n ps below) ∙ append-nil pool) s.order; ascending = s.ascending }

-- ---- how much the pool holds
nodes_sum : (ps : List (List ℕ)) → nodes_in ps ≡ sum_by (λ p. length p) ps
nodes_sum [] = refl
nodes_sum (p ∷ ps) = ap (λ n. length p + n) (nodes_sum ps) ∙ sym (sum_by-cons (λ p. length p) p ps)

-- a pool that is to take a path holds fewer paths, and with it no more node numbers, than the flow
pool_room : (ps pool : List (List ℕ)) (v i : ℕ) (d : List ℕ) → NoneTwice (map second_of ps) → i < length ps → second_of (get_or ps i d) ≡ v → Sorted ps pool v →
    (length pool + 1 ≤ length ps) × (nodes_in pool + length (get_or ps i d) ≤ nodes_in ps)
pool_room ps pool v i d once l e s =
    let x = get_or ps i d in
    let rest = from (v + 1) ps in
    let order : IsPermutation ps ((pool ++ x ∷ []) ++ rest) = (sorted_take ps pool v i d once l e s).order in
    let nodes : nodes_in ((pool ++ x ∷ []) ++ rest) ≡ nodes_in ps =
    nodes_sum ((pool ++ x ∷ []) ++ rest) ∙ sum_by-IsPermutation (λ p. length p) ps ((pool ++ x ∷ []) ++ rest) order ∙ sym (nodes_sum ps) in (
      omega (arith, length_permutation ps ((pool ++ x ∷ []) ++ rest) order, length-append (pool ++ x ∷ []) rest, length-append pool (x ∷ [])),
      omega (arith, nodes, nodes_in-append (pool ++ x ∷ []) rest, nodes_in-append pool (x ∷ [])),
    )

-- ---- the places of the second nodes
-- the second node, as a path is read
pub second_at : (p : List ℕ) (d : ℕ) → 2 ≤ length p → get_or p 1 d ≡ second_of p
second_at [] d l = absurd (omega arith)
second_at (a ∷ []) d l = absurd (omega arith)
second_at (a ∷ b ∷ p) d l = refl

-- the second node of one path more
pub places_more : (ps : List (List ℕ)) (i u : ℕ) (places : List (Option ℕ)) → u < length places → second_of (get_or ps i []) ≡ u → ArePlaces ps i places → ArePlaces ps (i + 1) (set places u (Some i))
places_more ps i u places room e s = record {
  entered = λ k l. elim (cases_eq k i) [
    | inl same ↦ ap is_some (array_put places u (second_of (get_or ps k [])) (Some i) room ∙ put_there (entry_of places) u (second_of (get_or ps k [])) (Some i) (eq-eqb (second_of (get_or ps k [])) u (ap (λ z. second_of (get_or ps z [])) same ∙ e)))
    | inr ne ↦ ap is_some (array_put places u (second_of (get_or ps k [])) (Some i) room) ∙ stays_on (entry_of places) u i (second_of (get_or ps k [])) (s.entered k (omega (arith, l, ne)))
  ];
  sound = λ v k h. elim (cases_Bool (eqb v u)) [
    | inl same ↦
        let here : i ≡ k = some_inj (sym (put_there (entry_of places) u v (Some i) same) ∙ sym (array_put places u v (Some i) room) ∙ h) in
        (omega (arith, here), ap (λ z. second_of (get_or ps z [])) (sym here) ∙ e ∙ sym (eqb-true v u same))
    | inr other ↦
        let old = s.sound v k (sym (put_else (entry_of places) u v (Some i) other) ∙ sym (array_put places u v (Some i) room) ∙ h) in
        (omega (arith, old.0), old.1)
  ];
}

-- a node without an entry is no second node
places_bare : (ps : List (List ℕ)) (places : List (Option ℕ)) (v : ℕ) → ArePlaces ps (length ps) places → entry_of places v ≡ None → has (map second_of ps) v ≡ false
places_bare ps places v s e = false_from_ne_true (has (map second_of ps) v) (λ h.
    let at = place_in (map second_of ps) v h in
    let inside : at.0 < length ps = let e : length (map second_of ps) ≡ length ps = length-map ps second_of in omega (arith, e, at.1) in
    let is : second_of (get_or ps at.0 []) ≡ v = sym (get_or-map second_of ps at.0 [] 0 inside) ∙ at.2 in
    false≢true (sym (ap is_some e) ∙ ap (λ z. on (entry_of places) z) (sym is) ∙ s.entered at.0 inside))

-- ---- a node whose entry is read
module _ (paths : List (Vec ℕ Global)) {places : List (Option ℕ)} {v n : ℕ} {o : Option ℕ} (at : ArePlaces (map (λ p. p.items) paths) (length paths) places) (low : v < n) (size : length places ≡ n) (read : o ≡ get_or places v o) where
  -- what was read is the entry
  entry : entry_of places v ≡ o
  entry = sym (read ∙ get_or_default places v o None (omega (arith, low, size)))

  -- the place that it holds is one of a path with this second node
  pub placed : {i : ℕ} → o ≡ Some i → (i < length paths) × (second_of (get_or (map (λ p. p.items) paths) i []) ≡ v)
  placed {i = i} is = at.sound v i (entry ∙ is)

  -- where there is none, the paths of the pool are those below the next node too
  pub skipped : {pool : List (List ℕ)} → o ≡ None → Sorted (map (λ p. p.items) paths) pool v → Sorted (map (λ p. p.items) paths) pool (v + 1)
  skipped {pool = pool} is s =
      let ps = map (λ p. p.items) paths in
      sorted_skip ps pool v (places_bare ps places v (subst (λ z. ArePlaces ps z places) (sym (length-map paths (λ p. p.items))) at) (entry ∙ is)) s

  -- the pool has room for the path there, and takes it in order
  pub taken : {pool : List (List ℕ)} {i : ℕ} {p : Vec ℕ Global} → NoneTwice (map second_of (map (λ q. q.items) paths)) → o ≡ Some i → p ≡ get_or paths i p → Sorted (map (λ q. q.items) paths) pool v
      → (length pool + 1 ≤ length paths) × (nodes_in pool + length p.items ≤ nodes_in (map (λ q. q.items) paths)) × Sorted (map (λ q. q.items) paths) (pool ++ p.items ∷ []) (v + 1)
  taken {pool = pool} {i = i} {p = p} once is path s =
      let ps = map (λ q. q.items) paths in
      let here = placed is in
      let long : length ps ≡ length paths = length-map paths (λ q. q.items) in
      let below : i < length ps = omega (arith, here.0, long) in
      let same : get_or ps i [] ≡ p.items = get_or-map (λ q. q.items) paths i p [] here.0 ∙ sym (ap (λ q. q.items) path) in
      let room = pool_room ps pool v i [] once below here.1 s in
      (omega (arith, room.0, long), subst (λ z. nodes_in pool + length z ≤ nodes_in ps) same room.1, subst (λ z. Sorted ps (pool ++ z ∷ []) (v + 1)) same (sorted_take ps pool v i [] once below here.1 s))

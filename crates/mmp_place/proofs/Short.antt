-- The free nodes of a set and how many monitors it asks for among them; and that a short set, as a single node of small degree, leaves a bad part.
use Rattle.std.proofs.Common.{◌≡◌, ℕ, ◌+◌, ◌-◌, ◌<◌, ◌≤◌, nat_lt, Bool, true, false, not, ◌&&◌, ◌||◌, ◌==◌, IsTrue, refl, sym, subst, arith, inl, inr, ◌⊎◌}
use Rattle.std.proofs.lemmas.Bool.{cases_Bool, cases_eq, cases_lt, both_ways, and_parts, and_from, or_cases, or_left, or_right, not-true, not_from_false, eqb-true, eq-eqb, false_from_ne_true, ltb-true}
use Rattle.tomo_base.specs.Network.{Network, IsGraph, linked}
use Rattle.tomo_base.specs.Sets.{one_if, size, degree, touches, outside, meet, minus, complement, Within, IsInside}
use Rattle.tomo_base.specs.BadParts.{IsBadPart}
use Rattle.tomo_base.proofs.Counts.{count-mono, count-add, count_gives, count-some}
use Rattle.tomo_base.proofs.Links.{linked_comm, linked_below}
use Rattle.tomo_base.proofs.Touching.{touches-from, touches_gives, outside-single}
use Rattle.tomo_base.specs.Parting.{IsClosedIn, without_two}
use Rattle.tomo_base.proofs.Parting.{without_two-from, without_two-in, without_two-ne, minus-in, minus-out}
use Rattle.tomo_base.proofs.Picks.{count-split, two-at-most}
use Rattle.tomo_base.proofs.Reaching.{is_node, is_node_below, is_node-from}
use Rattle.mmp_place.specs.Rule.{narrow, counting, IsShortSet}
use Rattle.mmp_place.proofs.Nodes.{two_cover}

-- v has a neighbour outside x
abbrev pub leaves : Network → (ℕ → Bool) → ℕ → Bool
leaves g x v = touches g (complement x) v

-- the nodes of x with a neighbour outside x
abbrev pub edge : Network → (ℕ → Bool) → ℕ → Bool
edge g x v = x v && leaves g x v

-- the nodes of x with all neighbours in x
abbrev pub free : Network → (ℕ → Bool) → ℕ → Bool
free g x v = minus x (leaves g x) v

-- how many of its free nodes have to be monitors
abbrev pub ask : Network → (ℕ → Bool) → ℕ
ask g x = 3 - size g (edge g x)

-- a node that leaves x is linked to a node outside x
pub leaves_gives : (g : Network) (x : ℕ → Bool) (v : ℕ) → leaves g x v ≡ true → (u : ℕ) × IsTrue (linked g v u) × (x u ≡ false)
leaves_gives g x v h = let r = touches_gives g (complement x) v h in (r.0, r.3, not-true (x r.0) r.2)

-- and the other way round
pub leaves-from : (g : Network) (x : ℕ → Bool) (v u : ℕ) → IsGraph g → IsTrue (linked g v u) → x u ≡ false → leaves g x v ≡ true
leaves-from g x v u graph l out = touches-from g (complement x) v u (linked_below g.nodes g.links v u graph l).1 (not_from_false (x u) out) l

-- a free node is in the set
pub free-in : (g : Network) (x : ℕ → Bool) (v : ℕ) → IsTrue (free g x v) → IsTrue (x v)
free-in g x v m = (minus-out x (leaves g x) v m).0

-- each neighbour of a free node is in the set
pub free_near : (g : Network) (x : ℕ → Bool) → IsGraph g → (v u : ℕ) → IsTrue (free g x v) → IsTrue (linked g v u) → IsTrue (x u)
free_near g x graph v u m l = elim (cases_Bool (x u)) [
  | inl h ↦ h
  | inr out ↦ absurd (both_ways (leaves g x v) (minus-out x (leaves g x) v m).1 (leaves-from g x v u graph l out))
]

-- a node of a set that holds all its neighbours is free
pub free-from : (g : Network) (x : ℕ → Bool) (v : ℕ) → IsTrue (x v) → ((u : ℕ) → IsTrue (linked g v u) → IsTrue (x u)) → IsTrue (free g x v)
free-from g x v m near = minus-in x (leaves g x) v m (false_from_ne_true (leaves g x v) (λ h. let r = leaves_gives g x v h in both_ways (x r.0) r.2 (near r.0 r.1)))

-- in a larger set no fewer nodes are free
pub free_wider : (g : Network) (x y : ℕ → Bool) → IsGraph g → Within x y → Within (free g x) (free g y)
free_wider g x y graph sub v m = free-from g y v (sub v (free-in g x v m)) (λ u l. sub u (free_near g x graph v u m l))

-- one node of x: it leaves, or it is free and a monitor
count_one : (x m l : Bool) → one_if (x && (m || l)) ≡ one_if (x && l) + one_if (m && (x && not l))
count_one x m l = grind arith

-- the nodes that count are the edge and the free monitors
pub counting_parts : (g : Network) (x m : ℕ → Bool) → size g (counting g x m) ≡ size g (edge g x) + size g (meet m (free g x))
counting_parts g x m = count-add g.nodes (counting g x m) (edge g x) (meet m (free g x)) (λ v l. count_one (x v) (m v) (leaves g x v))

-- a set that has as many monitors as it asks for is not short
pub asked_not_short : (g : Network) (x m : ℕ → Bool) → ask g x ≤ size g (meet m (free g x)) → IsShortSet g m x → ⊥
asked_not_short g x m enough short = omega (arith, enough, short, counting_parts g x m)

-- a set that is not short has as many
pub not_short_asked : (g : Network) (x m : ℕ → Bool) → (IsShortSet g m x → ⊥) → ask g x ≤ size g (meet m (free g x))
not_short_asked g x m not_short = elim (cases_lt (size g (meet m (free g x))) (ask g x)) [
  | inl few ↦ absurd (not_short (omega (arith, few, counting_parts g x m)))
  | inr enough ↦ enough
]

-- a set of three nodes has as many free nodes as it asks for
pub ask_fits : (g : Network) (x : ℕ → Bool) → 3 ≤ size g x → ask g x ≤ size g (free g x)
ask_fits g x three = omega (arith, three, count-split g.nodes x (leaves g x))

-- sets with the same nodes are short alike
pub short-same : (g : Network) (x y m : ℕ → Bool) → IsInside g x y → IsInside g y x → IsShortSet g m x → IsShortSet g m y
short-same g x y m xy yx short = omega (
  arith,
  short,
  count-mono g.nodes (counting g y m) (counting g x m) (λ v l h.
      let p = and_parts (y v) (m v || leaves g y v) h in
      and_from (x v) (m v || leaves g x v) (yx v l p.0) (elim (or_cases (m v) (leaves g y v) p.1) [
        | inl k ↦ or_left (m v) (leaves g x v) k
        | inr k ↦
            let r = touches_gives g (complement y) v k in
            or_right (m v) (leaves g x v) (touches-from g (complement x) v r.0 r.1
            (not_from_false (x r.0) (false_from_ne_true (x r.0) (λ h. both_ways (y r.0) (not-true (y r.0) r.2) (xy r.0 r.1 h)))) r.3)
      ])),
)

-- ---- bad parts

-- a bad part of nodes, closed without two numbers that are not in it
pub record HasGates (g : Network) (m q : ℕ → Bool) : Type 0 where
  pub inside : Within q (is_node g)
  pub node : ℕ
  pub node_in : IsTrue (q node)
  pub free : (v : ℕ) → IsTrue (q v) → m v ≡ false
  pub c : ℕ
  pub d : ℕ
  pub c_off : q c ≡ false
  pub d_off : q d ≡ false
  pub shut : IsClosedIn g (without_two (is_node g) c d) q

-- a part with such gates is bad
pub gates_bad : (g : Network) (m q : ℕ → Bool) → HasGates g m q → IsBadPart g m q
gates_bad g m q is = record {
  nonempty = count-some g.nodes q is.node (is_node_below g is.node (is.inside is.node is.node_in)) is.node_in;
  free = λ v l h. is.free v h;
  few = two-at-most g.nodes (outside g q) is.c is.d (λ v l h.
      let p = and_parts (not (q v)) (touches g q v) h in
      let near = touches_gives g q v p.1 in
      elim (cases_eq v is.c) [
        | inl e ↦ inl e
        | inr nc ↦ elim (cases_eq v is.d) [
          | inl e ↦ inr e
          | inr nd ↦ absurd (both_ways (q v) (not-true (q v) p.0) (is.shut near.0 v near.2 (linked_comm g v near.0 near.3) (without_two-from (is_node g) is.c is.d v (is_node-from g v l) nc nd)))
        ]
      ]);
}

-- the nodes of a bad part have gates
pub bad_gates : (g : Network) (m q : ℕ → Bool) → IsGraph g → IsBadPart g m q → HasGates g m (meet (is_node g) q)
bad_gates g m q graph bad =
    let p : ℕ → Bool = meet (is_node g) q in
    let some = count_gives g.nodes q bad.nonempty in
    let cover = two_cover g.nodes (outside g q) bad.few in
    let inner : (v : ℕ) → IsTrue (p v) → (v < g.nodes) × IsTrue (q v) = λ v h. let k = and_parts (is_node g v) (q v) h in (is_node_below g v k.0, k.1) in
    let off : (e : ℕ) → IsTrue (outside g q e) ⊎ (e ≡ g.nodes) → p e ≡ false = λ e h. false_from_ne_true (p e) (λ k. elim h [
      | inl out ↦ both_ways (q e) (not-true (q e) (and_parts (not (q e)) (touches g q e) out).0) (inner e k).1
      | inr top ↦ omega (arith, top, (inner e k).0)
    ]) in
    record {
      inside = λ v h. (and_parts (is_node g v) (q v) h).0;
      node = some.0;
      node_in = and_from (is_node g some.0) (q some.0) (is_node-from g some.0 some.1) some.2;
      free = λ v h. let k = inner v h in bad.free v k.0 k.1;
      c = cover.0;
      d = cover.1;
      c_off = off cover.0 cover.3;
      d_off = off cover.1 cover.4;
      shut = λ u v h l iv.
          let ne = without_two-ne (is_node g) cover.0 cover.1 v iv in
          let node = without_two-in (is_node g) cover.0 cover.1 v iv in
          let k = inner u h in
          and_from (is_node g v) (q v) node (elim (cases_Bool (q v)) [
            | inl there ↦ there
            | inr out ↦ absurd (elim (cover.2 v (is_node_below g v node) (and_from (not (q v)) (touches g q v) (not_from_false (q v) out) (touches-from g q v u k.0 k.1 (linked_comm g u v l))))
                [ inl e ↦ ne.0 e | inr e ↦ ne.1 e ])
          ]);
    }

-- the free nodes of a short set that are no monitors are a bad part
pub short_bad : (g : Network) (m x : ℕ → Bool) → IsGraph g → 3 ≤ size g x → IsShortSet g m x → IsBadPart g m (minus (free g x) m)
short_bad g m x graph three short =
    let q : ℕ → Bool = minus (free g x) m in
    let out : (v : ℕ) → IsTrue (q v) → IsTrue (x v) × (leaves g x v ≡ false) × (m v ≡ false) = λ v h.
    let o = minus-out (free g x) m v h in let i = minus-out x (leaves g x) v o.0 in (i.0, i.1, o.1) in
    record {
      nonempty = omega (arith, three, short, count-add g.nodes x (counting g x m) q (λ v l. node_of (x v) (m v) (leaves g x v)));
      free = λ v l h. (out v h).2;
      few = omega (
        arith,
        short,
        count-mono g.nodes (outside g q) (counting g x m) (λ v l h.
            let p = and_parts (not (q v)) (touches g q v) h in
            let near = touches_gives g q v p.1 in
            let xv = free_near g x graph near.0 v (minus-out (free g x) m near.0 near.2).0 (linked_comm g v near.0 near.3) in
            counts (x v) (m v) (leaves g x v) xv (not-true (q v) p.0)),
      );
    }
  where
    node_of : (x m l : Bool) → one_if x ≡ one_if (x && (m || l)) + one_if ((x && not l) && not m)
    node_of true true true = refl
    node_of true true false = refl
    node_of true false true = refl
    node_of true false false = refl
    node_of false m l = refl

    counts : (x m l : Bool) → x ≡ true → ((x && not l) && not m) ≡ false → (x && (m || l)) ≡ true
    counts true true l e h = refl
    counts true false true e h = refl
    counts true false false e h = sym h
    counts false m l e h = e

-- a node of degree below three that is no monitor is a bad part
pub narrow_bad : (g : Network) (m : ℕ → Bool) (v : ℕ) → v < g.nodes → IsTrue (narrow g v) → m v ≡ false → IsBadPart g m (λ w. w == v)
narrow_bad g m v l few out = record {
  nonempty = count-some g.nodes (λ w. w == v) v l (eq-eqb v v refl);
  free = λ w k h. subst (λ z. m z ≡ false) (sym (eqb-true w v h)) out;
  few = omega (arith, ltb-true (degree g v) 3 (and_parts (is_node g v) (nat_lt (degree g v) 3) few).1, outside-single g (λ w. w == v) v (λ w h. eqb-true w v h));
}

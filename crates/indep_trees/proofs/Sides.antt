-- Three parents on three sides of a node, by numbers and by ears: each path ends at a monitor, and the three of a node share that node alone.
use Rattle.std.proofs.Common.{◌≡◌, ◌≢◌, ℕ, zero, suc, ◌-◌, ◌<◌, ◌≤◌, Bool, true, false, ◌==◌, List, [], ◌∷◌, IsTrue, refl, sym, subst, inl, inr, arith}
use Rattle.std.proofs.lemmas.Bool.{cases_Bool, both_ways, or_cases, eqb-true}
use Rattle.tomo_base.specs.Network.{Network, linked, IsGraph}
use Rattle.tomo_base.specs.Sets.{has}
use Rattle.tomo_base.proofs.Links.{linked_below}
use Rattle.indep_trees.specs.Trees.{Climbs, IsFree, AreIndependent}

-- where the nodes of a node's path in tree i are: below it in number and on no later ear, above it and on no later ear, on a later ear
abbrev pub Side : (ℕ → ℕ) → (ℕ → ℕ) → ℕ → ℕ → ℕ → Type 0
Side number ear zero v w = (number w < number v) × (ear w ≤ ear v)
Side number ear (suc zero) v w = (number v < number w) × (ear w ≤ ear v)
Side number ear (suc (suc i)) v w = ear v < ear w

-- a number for each node, at most k ears, and three linked parents of each free node on the three sides
pub record HasSides (g : Network) (m : ℕ → Bool) (number ear : ℕ → ℕ) (k : ℕ) (parent : ℕ → ℕ → ℕ) : Type 0 where
  pub numbers : (v : ℕ) → v < g.nodes → number v < g.nodes
  pub once : (v w : ℕ) → v < g.nodes → w < g.nodes → number v ≡ number w → v ≡ w
  pub ears : (v : ℕ) → v < g.nodes → ear v < k
  pub linked : (i v : ℕ) → i < 3 → IsFree g m v → IsTrue (linked g v (parent i v))
  pub sides : (i v : ℕ) → i < 3 → IsFree g m v → Side number ear i v (parent i v)

-- a rank that falls to the parent gives a path
climbs_from : (n : ℕ) (m : ℕ → Bool) (up rank : ℕ → ℕ) → ((v : ℕ) → v < n → m v ≡ false → (up v < n) × (rank (up v) < rank v)) → (fuel v : ℕ) → v < n → rank v < fuel → (p : List ℕ) × Climbs m up v p
climbs_from n m up rank falls zero v l low = absurd (omega arith)
climbs_from n m up rank falls (suc fuel) v l low = elim (cases_Bool (m v)) [
  | inl y ↦ ([], y)
  | inr free ↦
      let f = falls v l free in
      let rest = climbs_from n m up rank falls fuel (up v) f.0 (omega (arith, f.1, low)) in
      (up v ∷ rest.0, (free, refl, rest.1))
]

-- what holds of the parent, and is kept, holds of each later node of a path
climb_all : (n : ℕ) (m : ℕ → Bool) (up : ℕ → ℕ) (P : ℕ → Type 0) → ((w : ℕ) → w < n → m w ≡ false → up w < n) → ((w : ℕ) → w < n → m w ≡ false → P w → P (up w)) → (v : ℕ) (p : List ℕ) → v < n → (m v ≡ false → P (up v)) → Climbs m up v p
    → (w : ℕ) → has p w ≡ true → P w
unfolding has
climb_all n m up P below keeps v [] l start c w h = absurd (both_ways false refl h)
climb_all n m up P below keeps v (x ∷ p) l start c w h =
    let here : P x = subst P (sym c.1) (start c.0) in
    elim (or_cases (x == w) (has p w) h) [
      | inl e ↦ subst P (eqb-true x w e) here
      | inr later ↦
          let small : x < n = subst (λ z. z < n) (sym c.1) (below v l c.0) in
          climb_all n m up P below keeps x p small (λ free. keeps x small free here) c.2 w later
    ]

-- no node is on two sides
sides_apart : (number ear : ℕ → ℕ) (i j v w : ℕ) → i < 3 → j < 3 → i ≢ j → Side number ear i v w → Side number ear j v w → ⊥
sides_apart number ear zero zero v w li lj differ a b = differ refl
sides_apart number ear zero (suc zero) v w li lj differ a b = omega (arith, a.0, b.0)
sides_apart number ear zero (suc (suc j)) v w li lj differ a b = omega (arith, a.1, b)
sides_apart number ear (suc zero) zero v w li lj differ a b = omega (arith, a.0, b.0)
sides_apart number ear (suc zero) (suc zero) v w li lj differ a b = differ refl
sides_apart number ear (suc zero) (suc (suc j)) v w li lj differ a b = omega (arith, a.1, b)
sides_apart number ear (suc (suc i)) zero v w li lj differ a b = omega (arith, a, b.1)
sides_apart number ear (suc (suc i)) (suc zero) v w li lj differ a b = omega (arith, a, b.1)
sides_apart number ear (suc (suc i)) (suc (suc j)) v w li lj differ a b = differ (omega (arith, li, lj))

-- the side of a node on the side of v
side_kept : (number ear : ℕ → ℕ) (i v w z : ℕ) → Side number ear i v w → Side number ear i w z → Side number ear i v z
side_kept number ear zero v w z a b = (omega (arith, a.0, b.0), omega (arith, a.1, b.1))
side_kept number ear (suc zero) v w z a b = (omega (arith, a.0, b.0), omega (arith, a.1, b.1))
side_kept number ear (suc (suc i)) v w z a b = omega (arith, a, b)

module _ (g : Network) (graph : IsGraph g) (m : ℕ → Bool) (number ear : ℕ → ℕ) (k : ℕ) (parent : ℕ → ℕ → ℕ) (s : HasSides g m number ear k parent) where
  below : (i : ℕ) → i < 3 → (v : ℕ) → v < g.nodes → m v ≡ false → parent i v < g.nodes
  below i three v l free = (linked_below g.nodes g.links v (parent i v) graph (s.linked i v three (l, free))).1

  -- what falls to the parent in each tree
  rank : ℕ → ℕ → ℕ
  rank zero v = number v
  rank (suc zero) v = g.nodes - number v
  rank (suc (suc i)) v = k - ear v

  rank_falls : (i : ℕ) → i < 3 → (v : ℕ) → v < g.nodes → m v ≡ false → (parent i v < g.nodes) × (rank i (parent i v) < rank i v)
  unfolding rank
  rank_falls zero three v l free = (below 0 three v l free, (s.sides 0 v three (l, free)).0)
  rank_falls (suc zero) three v l free = (below 1 three v l free, omega (arith, (s.sides 1 v three (l, free)).0, s.numbers (parent 1 v) (below 1 three v l free)))
  rank_falls (suc (suc i)) three v l free = (below (suc (suc i)) three v l free, omega (arith, s.sides (suc (suc i)) v three (l, free), s.ears (parent (suc (suc i)) v) (below (suc (suc i)) three v l free)))

  -- the later nodes of a path are on their side of its first
  on_side : (i : ℕ) → i < 3 → (v : ℕ) → IsFree g m v → (p : List ℕ) → Climbs m (parent i) v p → (w : ℕ) → has p w ≡ true → Side number ear i v w
  on_side i three v free p c = climb_all g.nodes m (parent i) (Side number ear i v) (below i three)
      (λ w l f at. side_kept number ear i v w (parent i w) at (s.sides i w three (l, f))) v p free.0 (λ f. s.sides i v three free) c

  -- so the trees are independent
  pub independent : AreIndependent g m number parent
  unfolding has
  independent = record {
    numbers = s.numbers;
    once = s.once;
    linked = s.linked;
    lower = λ v free. (s.sides 0 v (omega arith) free).0;
    higher = λ v free. (s.sides 1 v (omega arith) free).0;
    path = λ i v three l. climbs_from g.nodes m (parent i) (rank i) (rank_falls i three) (suc (rank i v)) v l (omega arith);
    share = λ i j v w p q li lj differ free c d a b. elim (or_cases (v == w) (has p w) a) [
      | inl e ↦ sym (eqb-true v w e)
      | inr in_p ↦ elim (or_cases (v == w) (has q w) b) [
        | inl e ↦ sym (eqb-true v w e)
        | inr in_q ↦ absurd (sides_apart number ear i j v w li lj differ (on_side i li v free p c w in_p) (on_side j lj v free q d w in_q))
      ]
    ];
  }

-- Of two sets of the rule that share a free node, the free nodes of the one filled first lie in those of the other.
use Rattle.std.proofs.Common.{◌≡◌, ◌≢◌, ℕ, ◌≤◌, Bool, ◌&&◌, ◌==◌, ◌+◌, IsTrue, refl, sym, ◌∙◌, subst, arith, inl, inr, ◌⊎◌}
use Rattle.std.proofs.lemmas.Bool.{cases_eq, both_ways, and_parts, and_from, eqb-true, eq-eqb, or_cases, or_left, or_right}
use Rattle.tomo_base.specs.Network.{Network, IsGraph, linked}
use Rattle.tomo_base.specs.Sets.{size, meet, union, without, Within, Apart}
use Rattle.tomo_base.proofs.Counts.{find}
use Rattle.tomo_base.specs.Parting.{without_two, IsClosedIn, IsJoinedIn, IsJoinedWithoutOne}
use Rattle.tomo_base.proofs.Parting.{without-from, without-parts, without_two-mono, flip, joined-more}
use Rattle.tomo_base.proofs.Picks.{count-within, count-without, pick1}
use Rattle.tomo_base.proofs.Reaching.{is_node, is_node_below}
use Rattle.blocks.proofs.CutSets.{Block}
use Rattle.blocks.proofs.Cutting.{blocks-meet}
use Rattle.blocks.proofs.Unparted.{Pairwise}
use Rattle.split_tree.proofs.Sound.{ThreeBlockIn}
use Rattle.mmp_place.proofs.Nodes.{ends_are, differ}
use Rattle.mmp_place.proofs.Parts.{ThreeBlock}
use Rattle.mmp_place.proofs.Short.{free, free-in, free_near, free_wider}

-- a node of a connected set of two nodes has a neighbour there
near_in : (g : Network) (w : ℕ → Bool) → IsGraph g → IsJoinedIn g w → 2 ≤ size g w → (v : ℕ) → IsTrue (w v) → (u : ℕ) × IsTrue (w u) × IsTrue (linked g v u)
near_in g w graph firm two v wv = elim (find g.nodes (λ u. w u && linked g v u)) [
  | inl r ↦ let p = and_parts (w r.0) (linked g v r.0) r.2 in (r.0, p.0, p.1)
  | inr none ↦
      let y = pick1 g.nodes w two v in
      absurd (y.3 (eqb-true y.0 v (firm v y.0 wv y.2 (λ z. z == v) (λ u x m l wx. absurd
      (let k = subst (λ z. IsTrue (linked g z x)) (eqb-true u v m) l in
      both_ways (w x && linked g v x) (none x (is_node_below g x (ends_are g graph v x k).1)) (and_from (w x) (linked g v x) wx k))) (eq-eqb v v refl))))
]

-- two blocks with a node whose neighbours all lie in the second are one
same_block : (g : Network) (b c : ℕ → Bool) → IsGraph g → Block g g.nodes (is_node g) b → Block g g.nodes (is_node g) c
    → (v : ℕ) → IsTrue (b v) → IsTrue (c v) → ((u : ℕ) → IsTrue (linked g v u) → IsTrue (c u)) → Within b c × Within c b
same_block g b c graph is_b is_c v bv cv near =
    let other : (x : ℕ) → IsTrue (b x) → x ≢ g.nodes = λ x m e. omega (arith, e, is_node_below g x (is_b.inside x m)) in
    let whole : IsJoinedIn g b = λ x y mx my. joined-more g (without b g.nodes) b (λ z i. (without-parts b g.nodes z i).0) x y
    (is_b.like.firm g.nodes x y (without-from b g.nodes x mx (other x mx)) (without-from b g.nodes y my (other y my))) in
    let u = near_in g b graph whole is_b.like.two v bv in
    blocks-meet g g.nodes (is_node g) b c is_b is_c v u.0 (differ g graph v u.0 u.2) bv cv u.1 (near u.0 u.2)

-- one of three different numbers is neither of two
one_of_three : (x y z c d : ℕ) → x ≢ y → x ≢ z → y ≢ z → ((x ≢ c) × (x ≢ d)) ⊎ (((y ≢ c) × (y ≢ d)) ⊎ ((z ≢ c) × (z ≢ d)))
one_of_three x y z c d xy xz yz =
    let at : (v : ℕ) → ((v ≡ c) ⊎ (v ≡ d)) ⊎ ((v ≢ c) × (v ≢ d)) = λ v. elim (cases_eq v c) [
      | inl e ↦ inl (inl e)
      | inr n ↦ elim (cases_eq v d) [ inl e ↦ inl (inr e) | inr m ↦ inr (n, m) ]
    ] in
    elim (at x) [
      | inr k ↦ inl k
      | inl ex ↦ elim (at y) [
        | inr k ↦ inr (inl k)
        | inl ey ↦ elim (at z) [
          | inr k ↦ inr (inr k)
          | inl ez ↦ absurd (elim ex [
            | inl xc ↦ elim ey [
              | inl yc ↦ xy (xc ∙ sym yc)
              | inr yd ↦ elim ez [ inl zc ↦ xz (xc ∙ sym zc) | inr zd ↦ yz (yd ∙ sym zd) ]
            ]
            | inr xd ↦ elim ey [
              | inr yd ↦ xy (xd ∙ sym yd)
              | inl yc ↦ elim ez [ inr zd ↦ xz (xd ∙ sym zd) | inl zc ↦ yz (yc ∙ sym zc) ]
            ]
          ])
        ]
      ]
    ]

-- a third node ties x in s to y in t
by_third : (g : Network) (b s t : ℕ → Bool) → Pairwise g b s → Pairwise g b t → (x y z c d : ℕ) → IsTrue (s x) → IsTrue (t y) → IsTrue (s z) → IsTrue (t z) → x ≢ y
    → c ≢ x → c ≢ y → d ≢ x → d ≢ y → z ≢ c → z ≢ d → (k : ℕ → Bool) → IsClosedIn g (without_two b c d) k → IsTrue (k x) → IsTrue (k y)
by_third g b s t ps pt x y z c d sx ty sz tz xy cx cy dx dy zc zd k h kx = elim (cases_eq x z) [
  | inl e ↦ pt x y (subst (λ w. IsTrue (t w)) (sym e) tz) ty xy c d cx cy dx dy k h kx
  | inr nxz ↦
      let kz : IsTrue (k z) = ps x z sx sz nxz c d cx (flip zc) dx (flip zd) k h kx in
      elim (cases_eq z y) [
        | inl e ↦ subst (λ w. IsTrue (k w)) e kz
        | inr nzy ↦ pt z y tz ty nzy c d (flip zc) cy (flip zd) dy k h kz
      ]
]

-- two unparted sets that share three nodes are unparted together
unparted-union : (g : Network) (b s t : ℕ → Bool) → Pairwise g b s → Pairwise g b t
    → (u v w : ℕ) → u ≢ v → u ≢ w → v ≢ w → IsTrue (s u) → IsTrue (s v) → IsTrue (s w) → IsTrue (t u) → IsTrue (t v) → IsTrue (t w) → Pairwise g b (union s t)
unparted-union g b s t ps pt u v w uv uw vw su sv sw tu tv tw x y mx my xy c d cx cy dx dy k h kx =
    let cross : (p q : ℕ → Bool) → Pairwise g b p → Pairwise g b q → IsTrue (p u) → IsTrue (p v) → IsTrue (p w) → IsTrue (q u) → IsTrue (q v) → IsTrue (q w) → IsTrue (p x) → IsTrue (q y) → IsTrue (k y) =
    λ p q pp pq pu pv pw qu qv qw px qy. elim (one_of_three u v w c d uv uw vw) [
      | inl o ↦ by_third g b p q pp pq x y u c d px qy pu qu xy cx cy dx dy o.0 o.1 k h kx
      | inr r ↦ elim r [
        | inl o ↦ by_third g b p q pp pq x y v c d px qy pv qv xy cx cy dx dy o.0 o.1 k h kx
        | inr o ↦ by_third g b p q pp pq x y w c d px qy pw qw xy cx cy dx dy o.0 o.1 k h kx
      ]
    ] in
    elim (or_cases (s x) (t x) mx) [
      | inl sx ↦ elim (or_cases (s y) (t y) my) [
        | inl sy ↦ ps x y sx sy xy c d cx cy dx dy k h kx
        | inr ty ↦ cross s t ps pt su sv sw tu tv tw sx ty
      ]
      | inr tx ↦ elim (or_cases (s y) (t y) my) [
        | inl sy ↦ cross t s pt ps tu tv tw su sv sw tx sy
        | inr ty ↦ pt x y tx ty xy c d cx cy dx dy k h kx
      ]
    ]

-- of two three-blocks of one block that share three nodes, the first lies in the second
three_meet : (g : Network) (b c s t : ℕ → Bool) → Within b c → ThreeBlockIn g.nodes g b s → ThreeBlockIn g.nodes g c t
    → (u v w : ℕ) → u ≢ v → u ≢ w → v ≢ w → IsTrue (s u) → IsTrue (s v) → IsTrue (s w) → IsTrue (t u) → IsTrue (t v) → IsTrue (t w) → Within s t
three_meet g b c s t bc is_s is_t u v w uv uw vw su sv sw tu tv tw x sx =
    let wider : Pairwise g c s = λ y z my mz yz p q py pz qy qz. joined-more g (without_two b p q) (without_two c p q) (without_two-mono b c p q bc) y z (is_s.joined y z my mz yz p q py pz qy qz) in
    is_t.largest (union s t) (λ z m. or_right (s z) (t z) m)
    (λ z m. elim (or_cases (s z) (t z) m) [ inl k ↦ bc z (is_s.inside z k) | inr k ↦ is_t.inside z k ])
    (unparted-union g c s t wider is_t.joined u v w uv uw vw su sv sw tu tv tw) x (or_left (s x) (t x) sx)

-- the free nodes of x lie in those of y, or none is shared
abbrev pub IsNestedIn : Network → (ℕ → Bool) → (ℕ → Bool) → Type 0
IsNestedIn g x y = Within (free g x) (free g y) ⊎ Apart (free g x) (free g y)

-- it is enough that x lies in y where a free node is shared
nested-from : (g : Network) (x y : ℕ → Bool) → IsGraph g → Within x (is_node g) → ((v : ℕ) → IsTrue (free g x v) → IsTrue (free g y v) → Within x y) → IsNestedIn g x y
nested-from g x y graph nodes h = elim (find g.nodes (meet (free g x) (free g y))) [
  | inl r ↦ let p = and_parts (free g x r.0) (free g y r.0) r.2 in inl (free_wider g x y graph (h r.0 p.0 p.1))
  | inr none ↦ inr (λ v mx my. both_ways (meet (free g x) (free g y) v) (none v (is_node_below g v (nodes v (free-in g x v mx)))) (and_from (free g x v) (free g y v) mx my))
]

-- any set in a larger one
pub nested_in_larger : (g : Network) (x y : ℕ → Bool) → IsGraph g → Within x (is_node g) → Within x y → IsNestedIn g x y
nested_in_larger g x y graph nodes sub = nested-from g x y graph nodes (λ v mx my. sub)

-- two blocks
pub nested_blocks : (g : Network) (b c : ℕ → Bool) → IsGraph g → Block g g.nodes (is_node g) b → Block g g.nodes (is_node g) c → IsNestedIn g b c
nested_blocks g b c graph is_b is_c = nested-from g b c graph is_b.inside (λ v mb mc.
    (same_block g b c graph is_b is_c v (free-in g b v mb) (free-in g c v mc) (λ u l. free_near g c graph v u mc l)).0)

-- a three-block and a block
pub nested_in_block : (g : Network) (t c : ℕ → Bool) → IsGraph g → ThreeBlock g t → Block g g.nodes (is_node g) c → IsNestedIn g t c
nested_in_block g t c graph is_t is_c = nested-from g t c graph (λ v m. is_t.is_block.inside v (is_t.within.inside v m)) (λ v mt mc x m.
    (same_block g is_t.block c graph is_t.is_block is_c v (is_t.within.inside v (free-in g t v mt)) (free-in g c v mc) (λ u l. free_near g c graph v u mc l)).0 x (is_t.within.inside x m))

-- a node of a set of three nodes that no node cuts has two neighbours there
two_near : (g : Network) (w : ℕ → Bool) → IsGraph g → IsJoinedWithoutOne g w → 3 ≤ size g w → (v : ℕ) → IsTrue (w v) → (a b : ℕ) × (b ≢ a) × IsTrue (linked g v a) × IsTrue (linked g v b)
two_near g w graph firm three v wv =
    let near = λ (c : ℕ) (vc : v ≢ c). near_in g (without w c) graph (firm c) (omega (arith, three, count-without g.nodes w c)) v (without-from w c v wv vc) in
    let a = near (v + 1) (λ e. omega (arith, e)) in
    let b = near a.0 (differ g graph v a.0 a.2) in
    (a.0, b.0, (without-parts w a.0 b.0 b.1).1, a.2, b.2)

-- two three-blocks
pub nested_three_blocks : (g : Network) (s t : ℕ → Bool) → IsGraph g → ThreeBlock g s → ThreeBlock g t → IsNestedIn g s t
nested_three_blocks g s t graph is_s is_t = nested-from g s t graph (λ v m. is_s.is_block.inside v (is_s.within.inside v m)) (λ v ms mt.
    let b = is_s.block in
    let sv = free-in g s v ms in
    let tv = free-in g t v mt in
    let bv = is_s.within.inside v sv in
    let same = same_block g b is_t.block graph is_s.is_block is_t.is_block v bv (is_t.within.inside v tv) (λ u l. is_t.within.inside u (free_near g t graph v u mt l)) in
    let two = two_near g b graph is_s.is_block.like.firm (omega (arith, is_s.within.four, count-within g.nodes s b is_s.within.inside)) v bv in
    let near : (u : ℕ) → IsTrue (linked g v u) → IsTrue (s u) × IsTrue (t u) = λ u l. (free_near g s graph v u ms l, free_near g t graph v u mt l) in
    let na = near two.0 two.3 in
    let nb = near two.1 two.4 in
    three_meet g b is_t.block s t same.0 is_s.within is_t.within v two.0 two.1 (differ g graph v two.0 two.3) (differ g graph v two.1 two.4) (flip two.2) sv na.0 nb.0 tv na.1 nb.1)

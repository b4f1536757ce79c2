-- The set that the rule places leaves no bad part, and has from every number up no more nodes than any set that leaves none.
use Rattle.std.proofs.Common.{◌≡◌, ℕ, zero, suc, ◌<◌, ◌≤◌, nat_lt, Bool, true, false, not, ◌&&◌, refl, sym, ap, ◌∙◌, subst, arith, inl, inr, ◌⊎◌, List, [], ◌∷◌, length, get_or, All, Contains}
use Rattle.std.proofs.lemmas.Bool.{and_parts, and_from}
use Rattle.std.proofs.lemmas.List.Elements.{All-head, All-tail}
use Rattle.tomo_base.specs.Network.{Network, IsGraph}
use Rattle.tomo_base.specs.Sets.{has, members, size, meet, Within, Apart, IsInside}
use Rattle.tomo_base.specs.Walks.{everything, IsConnected}
use Rattle.tomo_base.specs.BadParts.{NoBadPart}
use Rattle.tomo_base.specs.Lowest.{size_from}
use Rattle.tomo_base.specs.Blocks.{IsThreeBlock}
use Rattle.tomo_base.specs.SetLists.{AreSetsWith}
use Rattle.tomo_base.proofs.Counts.{count-mono, count-same}
use Rattle.tomo_base.proofs.Ascending.{All-has}
use Rattle.tomo_base.proofs.Members.{has-members}
use Rattle.tomo_base.proofs.Reaching.{is_node, is_node-from}
use Rattle.mmp_place.specs.Rule.{narrow, filled, filled_each, every_node, placed_by, IsLargeBlock, IsShortSet, PassesRule}
use Rattle.mmp_place.specs.Laws.{FreeNodesAreNested}
use Rattle.blocks.proofs.CutSets.{Block}
use Rattle.mmp_place.proofs.Nodes.{all_joined, size_every_node}
use Rattle.mmp_place.proofs.Parts.{ThreeBlock, trim-same, block_of_nodes, three_block_of_nodes}
use Rattle.mmp_place.proofs.Short.{free, ask, asked_not_short, not_short_asked, short-same}
use Rattle.mmp_place.proofs.Passing.{passing_is_good, good_passes}
use Rattle.mmp_place.proofs.Nested.{IsNestedIn, nested_in_larger, nested_blocks, nested_in_block, nested_three_blocks}
use Rattle.mmp_place.proofs.Additions.{filled_is}
use Rattle.mmp_place.proofs.Thresholds.{high, MeetsAll, IsLeastIn, least_start, least_fill}

-- what is known where all sets with a property are filled
pub record IsRun (g : Network) (Done : (ℕ → Bool) → Type 0) (m : ℕ → Bool) : Type 0 where
  pub narrow_nodes : IsInside g (narrow g) m
  pub meets : MeetsAll g Done m
  pub least : IsLeastIn g (narrow g) Done m

-- at first none
run_start : (g : Network) → IsRun g (λ x. ⊥) (narrow g)
run_start g = record { narrow_nodes = λ v l h. h; meets = λ x done. absurd done; least = least_start g (narrow g) }

-- a larger set meets what was met
meets_more : (g : Network) (m w x : ℕ → Bool) → Within m w → ask g x ≤ size g (meet m (free g x)) → ask g x ≤ size g (meet w (free g x))
meets_more g m w x sub meets = omega (
  arith,
  meets,
  count-mono g.nodes (meet m (free g x)) (meet w (free g x)) (λ v l i. let p = and_parts (m v) (free g x v) i in and_from (w v) (free g x v) (sub v p.0) p.1),
)

-- one set more, in which each earlier one is nested
run_fill : (g : Network) (Done : (ℕ → Bool) → Type 0) (x m : ℕ → Bool) → 3 ≤ size g x → ((y : ℕ → Bool) → Done y → IsNestedIn g y x) → IsRun g Done m
    → IsRun g (λ y. Done y ⊎ (y ≡ x)) (filled g x m)
run_fill g Done x m three nested run =
    let is = filled_is g x m three in
    record {
      narrow_nodes = λ v l h. is.grows v (run.narrow_nodes v l h);
      meets = λ y done. elim done [
        | inl old ↦ meets_more g m (filled g x m) y is.grows (run.meets y old)
        | inr same ↦ subst (λ z. ask g z ≤ size g (meet (filled g x m) (free g z))) (sym same) is.enough
      ];
      least = least_fill g (narrow g) Done x m (filled g x m) run.least is nested;
    }

-- a run by other words for the same sets
run-same : (g : Network) (Done Other : (ℕ → Bool) → Type 0) (m : ℕ → Bool) → ((x : ℕ → Bool) → Done x → Other x) → ((x : ℕ → Bool) → Other x → Done x) → IsRun g Done m → IsRun g Other m
run-same g Done Other m there back run = record {
  narrow_nodes = run.narrow_nodes;
  meets = λ x o. run.meets x (back x o);
  least = λ s inside meets u suits. run.least s inside (λ x d. meets x (there x d)) u (λ x d. suits x (there x d));
}

-- y is one of the sets of the list
abbrev pub IsOneOf : List (List ℕ) → (ℕ → Bool) → Type 0
IsOneOf [] y = ⊥
IsOneOf (x ∷ xs) y = (y ≡ has x) ⊎ IsOneOf xs y

-- one with a property has it from the list
pub one_of_has : (P : (ℕ → Bool) → Type 0) (xs : List (List ℕ)) → All (λ x. P (has x)) xs → (y : ℕ → Bool) → IsOneOf xs y → P y
one_of_has P [] each y one = absurd one
one_of_has P (x ∷ xs) each y one = elim one [
  | inl same ↦ subst P (sym same) (All-head (λ (z : List ℕ). P (has z)) x xs each)
  | inr later ↦ one_of_has P xs (All-tail (λ (z : List ℕ). P (has z)) x xs each) y later
]

-- one that the list contains
one-from : (xs : List (List ℕ)) (x : List ℕ) → Contains xs x → IsOneOf xs (has x)
one-from xs x some = at xs some.0 some.1 some.2
  where
    at : (xs : List (List ℕ)) (k : ℕ) → k < length xs → get_or xs k x ≡ x → IsOneOf xs (has x)
    at [] k l e = absurd (omega (arith, l))
    at (z ∷ zs) zero l e = inl (ap has (sym e))
    at (z ∷ zs) (suc k) l e = inr (at zs k (omega (arith, l)) e)

-- the sets of a list, each nested in each other
run_each : (g : Network) (P : (ℕ → Bool) → Type 0) → ((x : ℕ → Bool) → P x → 3 ≤ size g x) → ((x y : ℕ → Bool) → P x → P y → IsNestedIn g y x)
    → (xs : List (List ℕ)) → All (λ x. P (has x)) xs → (Done : (ℕ → Bool) → Type 0) (m : ℕ → Bool) → ((x y : ℕ → Bool) → P x → Done y → IsNestedIn g y x)
    → IsRun g Done m → IsRun g (λ y. Done y ⊎ IsOneOf xs y) (filled_each g xs m)
run_each g P three nested [] each Done m first run = run-same g Done (λ y. Done y ⊎ ⊥) m (λ x d. inl d) (λ x d. elim d [ inl k ↦ k | inr none ↦ absurd none ]) run
run_each g P three nested (x ∷ xs) each Done m first run =
    let is = All-head (λ (z : List ℕ). P (has z)) x xs each in
    let here = run_fill g Done (has x) m (three (has x) is) (λ y d. first (has x) y is d) run in
    let Next : (ℕ → Bool) → Type 0 = λ y. Done y ⊎ (y ≡ has x) in
    let rest = run_each g P three nested xs (All-tail (λ (z : List ℕ). P (has z)) x xs each) Next (filled g (has x) m) (λ z y p d. elim d [
      | inl old ↦ first z y p old
      | inr same ↦ subst (λ t. IsNestedIn g t z) (sym same) (nested z (has x) p is)
    ]) here in
    run-same g (λ y. Next y ⊎ IsOneOf xs y) (λ y. Done y ⊎ IsOneOf (x ∷ xs) y) (filled_each g xs (filled g (has x) m))
    (λ y d. elim d [ inl k ↦ elim k [ inl old ↦ inl old | inr same ↦ inr (inl same) ] | inr later ↦ inr (inr later) ])
    (λ y d. elim d [ inl old ↦ inl (inl old) | inr k ↦ elim k [ inl same ↦ inl (inr same) | inr later ↦ inr later ] ])
    rest

-- ---- the rule

-- a set of nodes with the property
abbrev IsSetOf : Network → ((ℕ → Bool) → Type 0) → (ℕ → Bool) → Type 0
IsSetOf g P x = Within x (is_node g) × P x

-- the sets of a list are such sets
sets_of : (g : Network) (P : (ℕ → Bool) → Type 0) (sets : List (List ℕ)) → AreSetsWith g.nodes P sets → All (λ x. IsSetOf g P (has x)) sets
sets_of g P sets are k d l = ((λ v h. is_node-from g v (All-has (λ v. v < g.nodes) (get_or sets k d) (are.nodes k d l).below v h)), are.each k d l)

-- a three-block, and a large block, by closed sets
by_closed : (g : Network) → IsGraph g → (x : ℕ → Bool) → IsSetOf g (IsThreeBlock g) x → ThreeBlock g x
by_closed g graph x is = three_block_of_nodes g x x graph (trim-same g x is.0) is.1

block_by_closed : (g : Network) → IsGraph g → (x : ℕ → Bool) → IsSetOf g (IsLargeBlock g) x → Block g g.nodes (is_node g) x
block_by_closed g graph x is = block_of_nodes g x x graph (trim-same g x is.0) is.1.0

-- of two sets that the rule fills the free nodes are nested or disjoint
pub free_nodes_are_nested : FreeNodesAreNested
free_nodes_are_nested g x y graph (below_x, kind_x) (below_y, kind_y) = elim kind_x [
  | inl three_x ↦ elim kind_y [
    | inl three_y ↦ ahead (nested_three_blocks g x y graph (by_closed g graph x (in_x, three_x)) (by_closed g graph y (in_y, three_y)))
    | inr other_y ↦ elim other_y [
      | inl block_y ↦ ahead (nested_in_block g x y graph (by_closed g graph x (in_x, three_x)) (block_by_closed g graph y (in_y, block_y)))
      | inr all_y ↦ ahead (nested_in_larger g x y graph in_x (λ v m. all_y v (below_x v m)))
    ]
  ]
  | inr other_x ↦ elim other_x [
    | inl block_x ↦ elim kind_y [
      | inl three_y ↦ behind (nested_in_block g y x graph (by_closed g graph y (in_y, three_y)) (block_by_closed g graph x (in_x, block_x)))
      | inr other_y ↦ elim other_y [
        | inl block_y ↦ ahead (nested_blocks g x y graph (block_by_closed g graph x (in_x, block_x)) (block_by_closed g graph y (in_y, block_y)))
        | inr all_y ↦ ahead (nested_in_larger g x y graph in_x (λ v m. all_y v (below_x v m)))
      ]
    ]
    | inr all_x ↦ behind (nested_in_larger g y x graph in_y (λ v m. all_x v (below_y v m)))
  ]
]
  where
    in_x : Within x (is_node g)
    in_x v m = is_node-from g v (below_x v m)

    in_y : Within y (is_node g)
    in_y v m = is_node-from g v (below_y v m)

    ahead : IsNestedIn g x y → (Within (free g x) (free g y) ⊎ Within (free g y) (free g x)) ⊎ Apart (free g x) (free g y)
    ahead h = elim h [ inl inside ↦ inl (inl inside) | inr apart ↦ inr apart ]

    behind : IsNestedIn g y x → (Within (free g x) (free g y) ⊎ Within (free g y) (free g x)) ⊎ Apart (free g x) (free g y)
    behind h = elim h [ inl inside ↦ inl (inr inside) | inr apart ↦ inr (λ v mx my. apart v my mx) ]

module _ (g : Network) (graph : IsGraph g) (connected : IsConnected g) (three : 3 ≤ g.nodes)
    (threes blocks : List (List ℕ)) (all_threes : AreSetsWith g.nodes (IsThreeBlock g) threes) (all_blocks : AreSetsWith g.nodes (IsLargeBlock g) blocks) where
  -- the sets that are filled
  abbrev IsFilled : (ℕ → Bool) → Type 0
  IsFilled y = ((⊥ ⊎ IsOneOf threes y) ⊎ IsOneOf blocks y) ⊎ (y ≡ every_node g)

  -- each is a three-block, a block, or the set of all nodes
  three_of : (y : ℕ → Bool) → ⊥ ⊎ IsOneOf threes y → IsSetOf g (IsThreeBlock g) y
  three_of y done = elim done [ inl none ↦ absurd none | inr one ↦ one_of_has (IsSetOf g (IsThreeBlock g)) threes (sets_of g (IsThreeBlock g) threes all_threes) y one ]

  block_of : (y : ℕ → Bool) → IsOneOf blocks y → IsSetOf g (IsLargeBlock g) y
  block_of y one = one_of_has (IsSetOf g (IsLargeBlock g)) blocks (sets_of g (IsLargeBlock g) blocks all_blocks) y one

  -- the whole run
  run : IsRun g IsFilled (placed_by g threes blocks)
  run =
      let Three : (ℕ → Bool) → Type 0 = IsSetOf g (IsThreeBlock g) in
      let Large : (ℕ → Bool) → Type 0 = IsSetOf g (IsLargeBlock g) in
      let first = run_each g Three (λ x is. omega (arith, is.1.2.four)) (λ x y is_x is_y. nested_three_blocks g y x graph (by_closed g graph y is_y) (by_closed g graph x is_x))
      threes (sets_of g (IsThreeBlock g) threes all_threes) (λ y. ⊥) (narrow g) (λ x y is none. absurd none) (run_start g) in
      let second = run_each g Large (λ x is. is.1.1) (λ x y is_x is_y. nested_blocks g y x graph (block_by_closed g graph y is_y) (block_by_closed g graph x is_x))
      blocks (sets_of g (IsLargeBlock g) blocks all_blocks) (λ y. ⊥ ⊎ IsOneOf threes y) (filled_each g threes (narrow g))
      (λ x y is done. nested_in_block g y x graph (by_closed g graph y (three_of y done)) (block_by_closed g graph x is)) first in
      run_fill g (λ y. (⊥ ⊎ IsOneOf threes y) ⊎ IsOneOf blocks y) (every_node g) (filled_each g blocks (filled_each g threes (narrow g))) (omega (arith, three, size_every_node g))
      (λ y done. elim done [
        | inl k ↦ nested_in_larger g y (every_node g) graph (three_of y k).0 (three_of y k).0
        | inr k ↦ nested_in_larger g y (every_node g) graph (block_of y k).0 (block_of y k).0
      ]) second

  -- what is placed passes the tests of the rule
  placed_passes : PassesRule g (placed_by g threes blocks)
  placed_passes = record {
    narrow_nodes = λ v l h. run.narrow_nodes v l h;
    three_blocks = λ t is short.
        let y : ℕ → Bool = has (members g.nodes t) in
        asked_not_short g y (placed_by g threes blocks) (run.meets y (inl (inl (inr (one-from threes (members g.nodes t) (all_threes.every t is))))))
        (short-same g t y (placed_by g threes blocks) (λ v l h. has-members g.nodes t v l ∙ h) (λ v l h. sym (has-members g.nodes t v l) ∙ h) short);
    blocks = λ b is short.
        let y : ℕ → Bool = has (members g.nodes b) in
        asked_not_short g y (placed_by g threes blocks) (run.meets y (inl (inr (one-from blocks (members g.nodes b) (all_blocks.every b is)))))
        (short-same g b y (placed_by g threes blocks) (λ v l h. has-members g.nodes b v l ∙ h) (λ v l h. sym (has-members g.nodes b v l) ∙ h) short);
    all_nodes = λ short. asked_not_short g (every_node g) (placed_by g threes blocks) (run.meets (every_node g) (inr refl)) short;
  }

  -- it leaves no bad part
  pub placed_is_good : NoBadPart g (placed_by g threes blocks)
  placed_is_good = passing_is_good g (placed_by g threes blocks) graph (all_joined g graph connected) placed_passes

  -- from every number up it has no more nodes than any set that leaves none
  pub placed_is_least : (s : ℕ → Bool) → NoBadPart g s → (h : ℕ) → size_from g (λ v. v) h (placed_by g threes blocks) ≤ size_from g (λ v. v) h s
  placed_is_least s good h =
      let passes = good_passes g s graph three good in
      let meets : MeetsAll g IsFilled s = λ x done. not_short_asked g x s (λ short. elim done [
        | inl k ↦ elim k [
          | inl i ↦ passes.three_blocks x (three_of x i).1 short
          | inr i ↦ passes.blocks x (block_of x i).1 short
        ]
        | inr same ↦ passes.all_nodes (subst (λ z. IsShortSet g s z) same short)
      ]) in
      let least = run.least s passes.narrow_nodes meets everything (λ x done. inl (λ v m. refl)) h in
      omega (arith, least, whole (placed_by g threes blocks), whole s)
    where
      whole : (q : ℕ → Bool) → size g (high h (meet q everything)) ≡ size g (high h q)
      whole q = count-same g.nodes (high h (meet q everything)) (high h q) (λ v l. ap (λ b. b && not (nat_lt v h)) (and_true (q v)))
        where
          and_true : (b : Bool) → (b && true) ≡ b
          and_true true = refl
          and_true false = refl

-- The steps of the placement, one after the other, are those of the rule.
use Rattle.std.proofs.Common.{◌≡◌, ℕ, zero, suc, ◌+◌, ◌<◌, ◌≤◌, nat_lt, cond, Bool, true, ◌&&◌, List, [], ◌∷◌, ◌++◌, length, get_or, take, All, Contains, refl, sym, ap, ◌∙◌, subst, arith, inl, inr, ◌⊎◌, lt-ltb, le-ltb, ltb-true}
use Rattle.std.proofs.lemmas.Bool.{cases_Bool, cases_lt, and_parts, or_cases}
use Rattle.std.proofs.lemmas.List.{take_more}
use Rattle.std.proofs.lemmas.List.Elements.{All-nil, All-cons, All-head, All-tail, All-append, All-weaker, Contains-append_left, Contains-append_right, Contains-push_cases}
use Rattle.tomo_base.specs.Network.{Network, IsGraph}
use Rattle.tomo_base.specs.Sets.{has, members, count, Within}
use Rattle.tomo_base.specs.Blocks.{IsBlock, IsThreeBlockOf, IsThreeBlock}
use Rattle.tomo_base.specs.SetLists.{IsSetBelow, AreSetsWith}
use Rattle.tomo_base.proofs.Counts.{count-mono, length-members}
use Rattle.tomo_base.proofs.Members.{count-has, has-members}
use Rattle.tomo_base.proofs.Ascending.{All-has}
use Rattle.tomo_base.proofs.Parting.{minus-out}
use Rattle.tomo_base.proofs.Reaching.{is_node, is_node-from}
use Rattle.mmp_place.specs.Rule.{every_node, narrow, counting, idle, wanting, filled, filled_each, placed_by, IsLargeBlock, IsPlacedByRule}
use Rattle.mmp_place.specs.Steps.{FillsThreeBlocks, large}
use Rattle.mmp_place.proofs.Parts.{three_block_same}

-- ---- large sets

-- a set is large, or not
large_or : (x : List ℕ) (xs : List (List ℕ)) → ((3 ≤ length x) × (large (x ∷ xs) ≡ x ∷ large xs)) ⊎ ((length x < 3) × (large (x ∷ xs) ≡ large xs))
large_or x xs = elim (cases_lt 2 (length x)) [
  | inl lt ↦ inl (omega (arith, lt), ap (λ b. cond b (x ∷ large xs) (large xs)) (lt-ltb 2 (length x) lt))
  | inr ge ↦ inr (omega (arith, ge), ap (λ b. cond b (x ∷ large xs) (large xs)) (le-ltb 2 (length x) ge))
]

-- what holds of each holds of each large one
pub large_each : (P : List ℕ → Type 0) (xs : List (List ℕ)) → All P xs → All (λ x. P x × (3 ≤ length x)) (large xs)
large_each P [] each = All-nil (λ x. P x × (3 ≤ length x))
large_each P (x ∷ xs) each =
    let rest = large_each P xs (All-tail P x xs each) in
    elim (large_or x xs) [
      | inl big ↦ rw big.1 (All-cons (λ x. P x × (3 ≤ length x)) x (large xs) (All-head P x xs each, big.0) rest)
      | inr small ↦ rw small.1 rest
    ]

-- a large set of the list is one of the large ones
pub large_has : (xs : List (List ℕ)) (x : List ℕ) → Contains xs x → 3 ≤ length x → Contains (large xs) x
large_has xs x (k, l, e) big = at xs k l e
  where
    at : (xs : List (List ℕ)) (k : ℕ) → k < length xs → get_or xs k x ≡ x → Contains (large xs) x
    at [] k l e = absurd (omega (arith, l))
    at (y ∷ ys) zero l e = elim (large_or y ys) [
      | inl is_big ↦ rw is_big.1 (zero, omega arith, e)
      | inr small ↦ absurd (omega (arith, small.0, big, ap (λ (z : List ℕ). length z) e))
    ]
    at (y ∷ ys) (suc k) l e =
        let rest = at ys k (omega (arith, l)) e in
        elim (large_or y ys) [
          | inl is_big ↦ rw is_big.1 (suc rest.0, omega (arith, rest.1), rest.2)
          | inr small ↦ rw small.1 rest
        ]

-- a large set more
large_push : (xs : List (List ℕ)) (x : List ℕ) → 3 ≤ length x → large (xs ++ x ∷ []) ≡ large xs ++ x ∷ []
large_push [] x big = ap (λ b. cond b (x ∷ []) []) (lt-ltb 2 (length x) (omega (arith, big)))
large_push (y ∷ ys) x big = elim (cases_Bool (nat_lt 2 (length y))) [
  | inl e ↦ rw e (ap (λ zs. y ∷ zs) (large_push ys x big))
  | inr e ↦ rw e (large_push ys x big)
]

-- a small one more
large_past : (xs : List (List ℕ)) (x : List ℕ) → length x < 3 → large (xs ++ x ∷ []) ≡ large xs
large_past [] x small = ap (λ b. cond b (x ∷ []) []) (le-ltb 2 (length x) (omega (arith, small)))
large_past (y ∷ ys) x small = elim (cases_Bool (nat_lt 2 (length y))) [
  | inl e ↦ rw e (ap (λ zs. y ∷ zs) (large_past ys x small))
  | inr e ↦ rw e (large_past ys x small)
]

-- ---- lists of sets that are filled

-- one list after another
pub filled_each-append : (g : Network) (xs ys : List (List ℕ)) (m : ℕ → Bool) → filled_each g (xs ++ ys) m ≡ filled_each g ys (filled_each g xs m)
filled_each-append g [] ys m = refl
filled_each-append g (x ∷ xs) ys m = filled_each-append g xs ys (filled g (has x) m)

-- a large set more is filled
pub fill_large_more : (g : Network) (sets : List (List ℕ)) (i : ℕ) (x : List ℕ) (m w next : ℕ → Bool) → i < length sets → x ≡ get_or sets i [] → 3 ≤ length x
    → ((v : ℕ) → w v ≡ filled_each g (large (take i sets)) m v) → ((v : ℕ) → next v ≡ filled g (has x) w v) → (v : ℕ) → next v ≡ filled_each g (large (take (i + 1) sets)) m v
fill_large_more g sets i x m w next l is big so_far here v =
    let before : w ≡ filled_each g (large (take i sets)) m = λ j u. so_far u j in
    let lists : large (take (i + 1) sets) ≡ large (take i sets) ++ x ∷ [] = ap large (take_more sets i [] l) ∙ (ap (λ y. large (take i sets ++ y ∷ [])) (sym is) ∙ large_push (take i sets) x big) in
    here v ∙ (ap (λ q. filled g (has x) q v) before ∙ ap (λ q. q v) (sym (ap (λ ys. filled_each g ys m) lists ∙ filled_each-append g (large (take i sets)) (x ∷ []) m)))

-- a small one is passed over
pub fill_large_past : (g : Network) (sets : List (List ℕ)) (i : ℕ) (x : List ℕ) (m w : ℕ → Bool) → i < length sets → x ≡ get_or sets i [] → length x < 3
    → ((v : ℕ) → w v ≡ filled_each g (large (take i sets)) m v) → (v : ℕ) → w v ≡ filled_each g (large (take (i + 1) sets)) m v
fill_large_past g sets i x m w l is small so_far v =
    let lists : large (take (i + 1) sets) ≡ large (take i sets) = ap large (take_more sets i [] l) ∙ (ap (λ y. large (take i sets ++ y ∷ [])) (sym is) ∙ large_past (take i sets) x small) in
    so_far v ∙ ap (λ ys. filled_each g ys m v) (sym lists)

-- ---- three-blocks

-- at first none is filled
pub fills_none : (g : Network) (m : ℕ → Bool) → FillsThreeBlocks g [] m m
fills_none g m = record {
  sets = [];
  nodes = All-nil (IsSetBelow g.nodes);
  each = All-nil (λ t. IsThreeBlock g (has t));
  every = λ b c t is. absurd (omega (arith, c.1));
  filled = λ v. refl;
}

-- a set of fewer than three nodes has no three-block
pub no_three_block : (g : Network) (b : List ℕ) (t : ℕ → Bool) → IsSetBelow g.nodes b → length b < 3 → IsThreeBlockOf g (has b) t → ⊥
no_three_block g b t is small here = omega (arith, small, here.four, count-mono g.nodes t (has b) here.inside, count-has g.nodes b is.ascending is.below)

-- such a block adds no three-block
pub fills_past : (g : Network) (blocks : List (List ℕ)) (b : List ℕ) (m w : ℕ → Bool) → IsSetBelow g.nodes b → length b < 3 → FillsThreeBlocks g blocks m w → FillsThreeBlocks g (blocks ++ b ∷ []) m w
fills_past g blocks b m w is small old = record {
  sets = old.sets;
  nodes = old.nodes;
  each = old.each;
  every = λ c con t of. elim (Contains-push_cases blocks b c con) [
    | inl earlier ↦ old.every c earlier t of
    | inr same ↦ absurd (no_three_block g b t is small (subst (λ z. IsThreeBlockOf g (has z) t) (sym same) of))
  ];
  filled = old.filled;
}

-- the three-blocks of one block more
pub fills_more : (g : Network) (blocks : List (List ℕ)) (b : List ℕ) (threes : List (List ℕ)) (m w next : ℕ → Bool) → IsBlock g (has b) → AreSetsWith g.nodes (IsThreeBlockOf g (has b)) threes
    → ((v : ℕ) → next v ≡ filled_each g threes w v) → FillsThreeBlocks g blocks m w → FillsThreeBlocks g (blocks ++ b ∷ []) m next
fills_more g blocks b threes m w next is_block are here old = record {
  sets = old.sets ++ threes;
  nodes = All-append (IsSetBelow g.nodes) old.sets threes old.nodes are.nodes;
  each = All-append (λ t. IsThreeBlock g (has t)) old.sets threes old.each (All-weaker (λ t. IsThreeBlockOf g (has b) (has t)) (λ t. IsThreeBlock g (has t)) (λ t is. (has b, is_block, is)) threes are.each);
  every = λ c con t of. elim (Contains-push_cases blocks b c con) [
    | inl earlier ↦ Contains-append_left old.sets threes (members g.nodes t) (old.every c earlier t of)
    | inr same ↦ Contains-append_right old.sets threes (members g.nodes t) (are.every t (subst (λ z. IsThreeBlockOf g (has z) t) (sym same) of))
  ];
  filled = λ v. let before : w ≡ filled_each g old.sets m = λ j u. old.filled u j in
      here v ∙ (ap (λ q. filled_each g threes q v) before ∙ ap (λ q. q v) (sym (filled_each-append g old.sets threes m)));
}

-- by another list of the same blocks
pub fills_same : (g : Network) (blocks others : List (List ℕ)) (m w : ℕ → Bool) → blocks ≡ others → FillsThreeBlocks g blocks m w → FillsThreeBlocks g others m w
fills_same g blocks others m w same fills = subst (λ bs. FillsThreeBlocks g bs m w) same fills

-- ---- all steps

-- only nodes are placed
filled_nodes : (g : Network) (x m : ℕ → Bool) → Within x (is_node g) → Within m (is_node g) → Within (filled g x m) (is_node g)
filled_nodes g x m xn mn v h = elim (or_cases (m v) (idle g x m v && nat_lt (count v (idle g x m)) (wanting g x m)) h) [
  | inl i ↦ mn v i
  | inr a ↦ xn v (minus-out x (counting g x m) v (and_parts (idle g x m v) (nat_lt (count v (idle g x m)) (wanting g x m)) a).0).0
]

filled_each_nodes : (g : Network) (sets : List (List ℕ)) (m : ℕ → Bool) → All (IsSetBelow g.nodes) sets → Within m (is_node g) → Within (filled_each g sets m) (is_node g)
filled_each_nodes g [] m below mn = mn
filled_each_nodes g (x ∷ xs) m below mn =
    let first = All-head (IsSetBelow g.nodes) x xs below in
    filled_each_nodes g xs (filled g (has x) m) (All-tail (IsSetBelow g.nodes) x xs below) (filled_nodes g (has x) m (λ v h. is_node-from g v (All-has (λ u. u < g.nodes) x first.below v h)) mn)

module _ (g : Network) (graph : IsGraph g) (blocks : List (List ℕ)) (are : AreSetsWith g.nodes (IsBlock g) blocks) (m1 m2 m3 m4 all : ℕ → Bool)
    (starts : (v : ℕ) → m1 v ≡ narrow g v) (threes : FillsThreeBlocks g blocks m1 m2) (larges : (v : ℕ) → m3 v ≡ filled_each g (large blocks) m2 v)
    (alls : (v : ℕ) → all v ≡ every_node g v) (last : (v : ℕ) → m4 v ≡ filled g all m3 v) where
  -- the blocks of three nodes or more
  large_blocks : AreSetsWith g.nodes (IsLargeBlock g) (large blocks)
  large_blocks =
      let both : All (λ x. (IsSetBelow g.nodes x × IsBlock g (has x)) × (3 ≤ length x)) (large blocks) = large_each (λ x. IsSetBelow g.nodes x × IsBlock g (has x)) blocks (λ k d l. (are.nodes k d l, are.each k d l)) in
      record {
        nodes = λ k d l. (both k d l).0.0;
        each = λ k d l. let b = both k d l in (b.0.1, omega (arith, b.1, count-has g.nodes (get_or (large blocks) k d) b.0.0.ascending b.0.0.below));
        every = λ q is. large_has blocks (members g.nodes q) (are.every q is.0) (omega (arith, is.1, length-members g.nodes q));
      }

  -- the three-blocks
  three_blocks : AreSetsWith g.nodes (IsThreeBlock g) threes.sets
  three_blocks = record {
    nodes = threes.nodes;
    each = threes.each;
    every = λ q is. threes.every (members g.nodes is.0) (are.every is.0 is.1) q (three_block_same g is.0 (has (members g.nodes is.0)) q graph
        (λ v l h. has-members g.nodes is.0 v l ∙ h) (λ v l h. sym (has-members g.nodes is.0 v l) ∙ h) is.2);
  }

  -- the steps are those of the rule
  placed_is : (v : ℕ) → m4 v ≡ placed_by g threes.sets (large blocks) v
  placed_is v =
      let first : m1 ≡ narrow g = λ j u. starts u j in
      let second : m2 ≡ filled_each g threes.sets m1 = λ j u. threes.filled u j in
      let third : m3 ≡ filled_each g (large blocks) m2 = λ j u. larges u j in
      let every : all ≡ every_node g = λ j u. alls u j in
      last v ∙ (ap (λ q. filled g q m3 v) every ∙ ap (λ q. filled g (every_node g) q v) (third ∙ ap (filled_each g (large blocks)) (second ∙ ap (filled_each g threes.sets) first)))

  -- what they leave is placed by the rule
  pub placed_by_steps : IsPlacedByRule g m4
  placed_by_steps = record {
    three_blocks = threes.sets;
    blocks = large blocks;
    all_three_blocks = three_blocks;
    all_blocks = large_blocks;
    placed = λ v l. placed_is v;
  }

  -- only nodes are
  pub placed_nodes : (v : ℕ) → m4 v ≡ true → v < g.nodes
  placed_nodes v h =
      let nodes : Within (placed_by g threes.sets (large blocks)) (is_node g) =
      filled_nodes g (every_node g) (filled_each g (large blocks) (filled_each g threes.sets (narrow g))) (λ u k. k)
      (filled_each_nodes g (large blocks) (filled_each g threes.sets (narrow g)) large_blocks.nodes
      (filled_each_nodes g threes.sets (narrow g) threes.nodes (λ u k. (and_parts (is_node g u) (nat_lt _ 3) k).0))) in
      ltb-true v g.nodes (nodes v (sym (placed_is v) ∙ h))

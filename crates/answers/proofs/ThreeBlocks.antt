-- The three-blocks of the blocks of a graph, gathered block by block, and the block of each.
use Rattle.std.proofs.Common.{◌≡◌, ℕ, ◌+◌, ◌<◌, ◌≤◌, Bool, List, [], ◌∷◌, ◌++◌, length, get_or, All, Contains, IsTrue, Result, Ok, Err, IfOk, length-append, ◌*◌, ◌↔◌, Vec, refl, sym, ap, ◌∙◌, subst, arith, inl, inr}
use Rattle.std.proofs.lemmas.Bool.{cases_lt}
use Rattle.std.proofs.lemmas.List.{get_or_default, get_or_push, get_or_append_left, length-map}
use Rattle.std.proofs.lemmas.List.Elements.{All-nil, All-append, All-weaker, Contains-append_left, Contains-append_right, Contains-push_cases}
use Rattle.tomo_base.specs.Network.{Network, IsGraph}
use Rattle.tomo_base.specs.Sets.{has, members}
use Rattle.tomo_base.specs.Blocks.{IsBlock, IsThreeBlockOf, IsThreeBlock}
use Rattle.std.specs.Global.{Global}
use Rattle.std.specs.List.Sorted.{IsStrictlySortedBy}
use Rattle.tomo_base.specs.Limits.{node_limit}
use Rattle.tomo_base.specs.SetLists.{IsSetBelow, AreSetsWith, AreAllSets, set_cmp, lists_of}
use Rattle.blocks.proofs.SameSets.{sets_same}
use Rattle.tomo_base.proofs.Counts.{count-le}
use Rattle.tomo_base.proofs.Members.{count-has, has-members}
use Rattle.tomo_base.proofs.Ascending.{has-at}
use Rattle.mmp_place.proofs.Parts.{three_block_same}
use Rattle.split_tree.specs.declared.piece.Piece.{Piece}
use Rattle.split_tree.specs.Pieces.{IsPieceOf}
use Rattle.tomo_base.specs.Search.{entry_at}
use Rattle.mmp_place.proofs.Gathering.{no_three_block}
use Rattle.answers.specs.Components.{AreIn, AreHomes}

-- the lists are the three-blocks of these blocks
pub record Gathers (g : Network) (blocks lists : List (List ℕ)) : Type 0 where
  pub nodes : All (IsSetBelow g.nodes) lists
  pub each : All (λ t. IsThreeBlock g (has t)) lists
  pub every : (b : List ℕ) → Contains blocks b → (t : ℕ → Bool) → IsThreeBlockOf g (has b) t → Contains lists (members g.nodes t)

-- of no block there is none
pub gathers_none : (g : Network) → Gathers g [] []
gathers_none g = record {
  nodes = All-nil (IsSetBelow g.nodes);
  each = All-nil (λ t. IsThreeBlock g (has t));
  every = λ b c t is. absurd (omega (arith, c.1));
}

-- a block of fewer than three nodes has none
pub gathers_past : (g : Network) (blocks lists : List (List ℕ)) (b : List ℕ) → IsSetBelow g.nodes b → length b < 3 → Gathers g blocks lists → Gathers g (blocks ++ b ∷ []) lists
gathers_past g blocks lists b is small old = record {
  nodes = old.nodes;
  each = old.each;
  every = λ c con t of. elim (Contains-push_cases blocks b c con) [
    | inl earlier ↦ old.every c earlier t of
    | inr same ↦ absurd (no_three_block g b t is small (subst (λ z. IsThreeBlockOf g (has z) t) (sym same) of))
  ];
}

-- those of one block more
pub gathers_more : (g : Network) (blocks lists : List (List ℕ)) (b : List ℕ) (sets : List (List ℕ)) → IsBlock g (has b) → AreSetsWith g.nodes (IsThreeBlockOf g (has b)) sets
    → Gathers g blocks lists → Gathers g (blocks ++ b ∷ []) (lists ++ sets)
gathers_more g blocks lists b sets is_block are old = record {
  nodes = All-append (IsSetBelow g.nodes) lists sets old.nodes are.nodes;
  each = All-append (λ t. IsThreeBlock g (has t)) lists sets old.each (All-weaker (λ t. IsThreeBlockOf g (has b) (has t)) (λ t. IsThreeBlock g (has t)) (λ t is. (has b, is_block, is)) sets are.each);
  every = λ c con t of. elim (Contains-push_cases blocks b c con) [
    | inl earlier ↦ Contains-append_left lists sets (members g.nodes t) (old.every c earlier t of)
    | inr same ↦ Contains-append_right lists sets (members g.nodes t) (are.every t (subst (λ z. IsThreeBlockOf g (has z) t) (sym same) of))
  ];
}

-- by another list of the same blocks, and another of the same three-blocks
pub gathers_same : (g : Network) (blocks others lists sets : List (List ℕ)) → blocks ≡ others → lists ≡ sets → Gathers g blocks lists → Gathers g others sets
gathers_same g blocks others lists sets same alike gathers = subst (λ xs. Gathers g others xs) alike (subst (λ bs. Gathers g bs lists) same gathers)

-- those of all blocks are all
pub gathers_all : (g : Network) (blocks lists : List (List ℕ)) → IsGraph g → AreSetsWith g.nodes (IsBlock g) blocks → Gathers g blocks lists → AreSetsWith g.nodes (IsThreeBlock g) lists
gathers_all g blocks lists graph are gathers = record {
  nodes = gathers.nodes;
  each = gathers.each;
  every = λ q is. gathers.every (members g.nodes is.0) (are.every is.0 is.1) q (three_block_same g is.0 (has (members g.nodes is.0)) q graph
      (λ v l h. has-members g.nodes is.0 v l ∙ h) (λ v l h. sym (has-members g.nodes is.0 v l) ∙ h) is.2);
}

-- a three-block lies in a block of the list
pub home_of_three_block : (g : Network) (blocks : List (List ℕ)) (s : List ℕ) → AreSetsWith g.nodes (IsBlock g) blocks → IsSetBelow g.nodes s → IsThreeBlock g (has s)
    → (i : ℕ) × (i < length blocks) × AreIn (get_or blocks i []) s
home_of_three_block g blocks s are below (b, is_block, is) =
    let here : Contains blocks (members g.nodes b) = are.every b is_block in
    let same : get_or blocks here.0 [] ≡ members g.nodes b = get_or_default blocks here.0 [] (members g.nodes b) here.1 ∙ here.2 in (
      here.0,
      here.1,
      λ k d l.
          let v = get_or s k d in
          let low : v < g.nodes = below.below k d l in
          subst (λ xs. IsTrue (has xs v)) (sym same) (has-members g.nodes b v low ∙ is.inside v low (has-at s k d l)),
    )

-- a piece with all nodes of a block has at most the graph's
pub few_sets : {E : Type 0} (r : Result (List (List ℕ)) E) (g : Network) (block : List ℕ) (p : Piece) → IsSetBelow g.nodes block → IsPieceOf g block p
    → IfOk r (λ sets. length sets + 2 ≤ length p.nodes) → IfOk r (λ sets. length sets ≤ g.nodes)
few_sets (Err e) g block p below is few = tt
few_sets (Ok sets) g block p below is few =
    omega (arith, few, ap (λ (xs : List ℕ). length xs) is.nodes_are, count-has g.nodes block below.ascending below.below, count-le g.nodes (has block))

-- a number for each of the first i sets: that of a block that has all its nodes
pub record Homes (blocks sets : List (List ℕ)) (i : ℕ) (homes : List ℕ) : Type 0 where
  pub count : length homes ≡ i
  pub block : (k : ℕ) → k < i → entry_at homes k < length blocks
  pub nodes : (k : ℕ) → k < i → AreIn (get_or blocks (entry_at homes k) []) (get_or sets k [])

-- of no set
pub homes_none : (blocks sets : List (List ℕ)) → Homes blocks sets 0 []
homes_none blocks sets = record { count = refl; block = λ k l. absurd (omega (arith, l)); nodes = λ k l. absurd (omega (arith, l)) }

-- of one set more
pub homes_more : (blocks sets : List (List ℕ)) (i h : ℕ) (homes : List ℕ) → h < length blocks → AreIn (get_or blocks h []) (get_or sets i []) → Homes blocks sets i homes
    → Homes blocks sets (i + 1) (homes ++ h ∷ [])
homes_more blocks sets i h homes here inside old =
    let last : get_or (homes ++ h ∷ []) i 0 ≡ h = get_or_push homes h 0 i old.count in
    let first : (k : ℕ) → k < i → get_or (homes ++ h ∷ []) k 0 ≡ get_or homes k 0 = λ k l. get_or_append_left homes (h ∷ []) 0 k (omega (arith, l, old.count)) in
    record {
      count = omega (arith, old.count, length-append homes (h ∷ []));
      block = λ k l. elim (cases_lt k i) [
        | inl lt ↦ rw (first k lt) (old.block k lt)
        | inr ge ↦ (let same : k ≡ i = omega (arith, l, ge) in rw (same, last) here)
      ];
      nodes = λ k l. elim (cases_lt k i) [
        | inl lt ↦ rw (first k lt) (old.nodes k lt)
        | inr ge ↦ (let same : k ≡ i = omega (arith, l, ge) in rw (same, last) inside)
      ];
    }

-- of all sets
pub homes_all : (blocks sets : List (List ℕ)) (i : ℕ) (homes : List ℕ) → i ≡ length sets → Homes blocks sets i homes → AreHomes blocks sets homes
homes_all blocks sets i homes all old =
    record { count = old.count ∙ all; block = λ k l. old.block k (omega (arith, l, all)); nodes = λ k l. old.nodes k (omega (arith, l, all)) }

-- the sets of one block more are few more
pub added_few : (old new : List (Vec ℕ Global)) (sets : List (List ℕ)) (n i : ℕ) → lists_of new ≡ lists_of old ++ sets → length sets ≤ n → n ≤ node_limit → length old ≤ node_limit * i → length new ≤ node_limit * (i + 1)
added_few old new sets n i same few limit so_far =
    omega (arith, few, limit, so_far, ap (λ (xs : List (List ℕ)). length xs) same, length-append (lists_of old) sets, length-map old (λ (v : Vec ℕ Global). v.items), length-map new (λ (v : Vec ℕ Global). v.items))

-- in order, they are all sets with the property
pub all_sets : {E : Type 0} (r : Result (List (List ℕ)) E) (n : ℕ) (P : (ℕ → Bool) → Type 0) (lists : List (List ℕ)) → AreSetsWith n P lists → IfOk r (IsStrictlySortedBy set_cmp)
    → IfOk r (λ sets. (q : List ℕ) → Contains sets q ↔ Contains lists q) → IfOk r (AreAllSets n P)
all_sets (Err e) n P lists are sorted same = tt
all_sets (Ok sets) n P lists are sorted same = record { with_it = sets_same n P lists sets are same; in_order = sorted }

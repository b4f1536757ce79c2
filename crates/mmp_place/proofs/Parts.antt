-- Blocks and three-blocks by closed sets in place of walks; what the tests say of numbers that are no nodes does not matter.
use Rattle.std.proofs.Common.{Result, Ok, Err, IfOk, ◌≡◌, ℕ, ◌<◌, Bool, List, IsTrue, sym, ◌∙◌, subst, inl, inr}
use Rattle.std.proofs.lemmas.Bool.{cases_Bool, cases_lt, both_ways, and_parts, and_from, false_from_ne_true}
use Rattle.tomo_base.specs.Network.{Network, IsGraph}
use Rattle.tomo_base.specs.Sets.{has, members, without, Within, IsInside}
use Rattle.tomo_base.specs.Blocks.{IsBlock, ArePartedBy, IsThreeBlockOf, IsThreeBlock}
use Rattle.tomo_base.specs.SetLists.{AreSetsWith, AreAllSets}
use Rattle.tomo_base.proofs.Parting.{without_two-in, without_two-from, without_two-ne}
use Rattle.tomo_base.proofs.Members.{has-members, members_below}
use Rattle.tomo_base.proofs.Reaching.{is_node, nodes_in, is_node_below, is_node-from}
use Rattle.tomo_base.proofs.Walks.{Reaches-inside}
use Rattle.blocks.proofs.CutSets.{Block}
use Rattle.blocks.proofs.Working.{block-from, block-to}
use Rattle.split_tree.specs.declared.piece.Piece.{Piece}
use Rattle.split_tree.specs.Pieces.{IsPieceOf}
use Rattle.split_tree.proofs.Sound.{ThreeBlockIn}
use Rattle.split_tree.proofs.Sounding.{three_block_to, three_block_from}

-- w has just the nodes of s
pub record Trims (g : Network) (s w : ℕ → Bool) : Type 0 where
  pub nodes : Within w (is_node g)
  pub kept : IsInside g s w
  pub inside : Within w s

-- a set of nodes is one for itself
pub trim-same : (g : Network) (s : ℕ → Bool) → Within s (is_node g) → Trims g s s
trim-same g s nodes = record { nodes = nodes; kept = λ v l m. m; inside = λ v m. m }

-- the list of the nodes of a set has just these
pub trim-members : (g : Network) (s : ℕ → Bool) → Trims g s (has (members g.nodes s))
trim-members g s =
    let node : (v : ℕ) → IsTrue (has (members g.nodes s) v) → v < g.nodes = λ v h. elim (cases_lt v g.nodes) [
      | inl l ↦ l
      | inr ge ↦ absurd (both_ways (has (members g.nodes s) v) (members_below g.nodes s v ge) h)
    ] in
    record {
      nodes = λ v h. is_node-from g v (node v h);
      kept = λ v l m. has-members g.nodes s v l ∙ m;
      inside = λ v h. sym (has-members g.nodes s v (node v h)) ∙ h;
    }

-- there is just one such set
trim_is : (g : Network) (s w : ℕ → Bool) → Trims g s w → nodes_in g s ≡ w
trim_is g s w t = λ j v. at v j
  where
    at : (v : ℕ) → nodes_in g s v ≡ w v
    at v = elim (cases_Bool (w v)) [
      | inl e ↦ and_from (is_node g v) (s v) (t.nodes v e) (t.inside v e) ∙ sym e
      | inr e ↦ false_from_ne_true (nodes_in g s v) (λ h. let p = and_parts (is_node g v) (s v) h in both_ways (w v) e (t.kept v (is_node_below g v p.0) p.1)) ∙ sym e
    ]

-- ---- blocks

-- a block, for the nodes of it
pub block_of_nodes : (g : Network) (s w : ℕ → Bool) → IsGraph g → Trims g s w → IsBlock g s → Block g g.nodes (is_node g) w
block_of_nodes g s w graph t is = subst (Block g g.nodes (is_node g)) (trim_is g s w t) (block-from g s graph is)

-- ---- three-blocks

-- what two others part in the one set they part in the other
parted_same : (g : Network) (b c : ℕ → Bool) (x y p q : ℕ) → IsGraph g → IsInside g b c → IsInside g c b → p < g.nodes → q < g.nodes → ArePartedBy g c x y p q → ArePartedBy g b x y p q
parted_same g b c x y p q graph bc cb lp lq parted = record {
  first = cb p lp parted.first;
  second = cb q lq parted.second;
  differ = parted.differ;
  first_other = parted.first_other;
  second_other = parted.second_other;
  no_walk = λ walk. parted.no_walk (Reaches-inside g (without (without b p) q) (without (without c p) q) x y graph
      (λ v l m. let ne = without_two-ne b p q v m in without_two-from c p q v (bc v l (without_two-in b p q v m)) ne.0 ne.1) walk);
}

-- a three-block of a block is one of a set with the same nodes
pub three_block_same : (g : Network) (b c t : ℕ → Bool) → IsGraph g → IsInside g b c → IsInside g c b → IsThreeBlockOf g b t → IsThreeBlockOf g c t
three_block_same g b c t graph bc cb is = record {
  inside = λ v l m. bc v l (is.inside v l m);
  four = is.four;
  unparted = λ x y p q lx ly mx my xy lp lq parted. is.unparted x y p q lx ly mx my xy lp lq (parted_same g b c x y p q graph bc cb lp lq parted);
  largest = λ s sc unparted ts. is.largest s (λ v l m. cb v l (sc v l m))
      (λ x y p q lx ly mx my xy lp lq parted. unparted x y p q lx ly mx my xy lp lq (parted_same g c b x y p q graph cb bc lp lq parted)) ts;
}

-- a three-block of the graph, with its block
pub record ThreeBlock (g : Network) (t : ℕ → Bool) : Type 0 where
  pub block : ℕ → Bool
  pub is_block : Block g g.nodes (is_node g) block
  pub within : ThreeBlockIn g.nodes g block t

-- a three-block, for the nodes of it
pub three_block_of_nodes : (g : Network) (s t : ℕ → Bool) → IsGraph g → Trims g s t → IsThreeBlock g s → ThreeBlock g t
three_block_of_nodes g s t graph trim_t (b, is_block, is) =
    let xs = members g.nodes b in
    let trim = trim-members g b in
    let block = block_of_nodes g b (has xs) graph trim is_block in
    record {
      block = has xs;
      is_block = block;
      within = subst (ThreeBlockIn g.nodes g (has xs)) (trim_is g s t trim_t)
          (three_block_from g xs graph (λ v m. is_node_below g v (trim.nodes v m)) block.like.firm s (three_block_same g b (has xs) s graph trim.kept (λ v l m. trim.inside v m) is));
    }

-- and the other way round
pub three_block_gives : (g : Network) (t : ℕ → Bool) → IsGraph g → ThreeBlock g t → IsThreeBlock g t
three_block_gives g t graph is =
    let c = is.block in
    let xs = members g.nodes c in
    let trim = trim-members g c in
    let same : c ≡ has xs = sym (trim_is g c c (trim-same g c is.is_block.inside)) ∙ trim_is g c (has xs) trim in
    let block = subst (Block g g.nodes (is_node g)) same is.is_block in (
      has xs,
      block-to g (has xs) graph block,
      three_block_to g xs graph (λ v m. is_node_below g v (trim.nodes v m)) block.like.firm t (subst (λ q. ThreeBlockIn g.nodes g q t) same is.within),
    )

-- the three-blocks of a piece are those of the block that it is
pub three_blocks_of_piece : {E : Type 0} (r : Result (List (List ℕ)) E) (g : Network) (block : List ℕ) (p : Piece) (n : ℕ) → IsGraph g → n ≡ g.nodes → IsPieceOf g block p
    → IfOk r (λ sets. (h : Network) → IsGraph h → h.nodes ≡ n → IsPieceOf h p.nodes p → AreAllSets h.nodes (IsThreeBlockOf h (has p.nodes)) sets)
    → IfOk r (AreSetsWith g.nodes (IsThreeBlockOf g (has block)))
three_blocks_of_piece (Err e) g block p n graph same is all = tt
three_blocks_of_piece (Ok sets) g block p n graph same is all =
    let own : IsPieceOf g p.nodes p = subst (λ xs. IsPieceOf g xs p) (sym is.nodes_are) is in
    subst (λ xs. AreSetsWith g.nodes (IsThreeBlockOf g (has xs)) sets) is.nodes_are (all g graph (sym same) own).with_it

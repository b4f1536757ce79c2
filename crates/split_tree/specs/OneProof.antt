-- That a tree is a split tree has one proof at most, so a value can carry it.
use Rattle.std.specs.Prelude.{ℕ, List, [], ◌∷◌}
use Rattle.std.proofs.Props.{props}
use Rattle.tomo_base.specs.declared.graph.Link.{Link}
use Rattle.tomo_base.specs.Network.{AreLinks}
use Rattle.split_tree.specs.declared.piece.Piece.{Piece}
use Rattle.split_tree.specs.declared.tree.Tree.{Tree, Small, Rigid, Split', Row_of-Tree-Split-2-1, end_of-Tree-Split-2-1, more_of-Tree-Split-2-1, Row_of-Tree, end_of-Tree, more_of-Tree}
use Rattle.split_tree.specs.Pieces.{IsPiece, IsPartAt, IsCutInto}
use Rattle.split_tree.specs.Trees.{IsSplit, Facts, BoxFacts, RowFacts, IsSplitTree}

-- links of a graph
are_links_prop : (n : ℕ) (ls : List Link) → IsProp (AreLinks n ls)
are_links_prop n [] = hlevel props
are_links_prop n (l ∷ ls) = let rest = are_links_prop n ls in hlevel (props, rest)

-- a piece
is_piece_prop : (n : ℕ) (p : Piece) → IsProp (IsPiece n p)
is_piece_prop n p = hlevel (are_links_prop, props)

-- a part
is_part_prop : (p : Piece) (pair : Link) (q : Piece) → IsProp (IsPartAt p pair q)
is_part_prop p pair q = hlevel props

-- two parts
is_cut_prop : (p : Piece) (pair : Link) (l r : Piece) → IsProp (IsCutInto p pair l r)
is_cut_prop p pair l r = hlevel (is_part_prop, props)

-- two parts of a list
is_split_prop : (p : Piece) (pair : Link) (ps : List Piece) → IsProp (IsSplit p pair ps)
is_split_prop p pair [] = hlevel props
is_split_prop p pair (l ∷ []) = hlevel props
is_split_prop p pair (l ∷ (r ∷ [])) = is_cut_prop p pair l r
is_split_prop p pair (l ∷ (r ∷ (x ∷ xs))) = hlevel props

mutual
  -- the facts of a tree
  facts_prop : (n : ℕ) (t : Tree) → IsProp (Facts n t)
  facts_prop n (Small p) = hlevel (is_piece_prop, props)
  facts_prop n (Rigid p) = hlevel (is_piece_prop, props)
  facts_prop n (Split' p pair shape all) = let rest = row_prop n all in hlevel (is_piece_prop, is_split_prop, rest, props)

  -- of the trees of a box
  box_prop : {m : _} (n : ℕ) (r : Row_of-Tree m) → IsProp (BoxFacts n r)
  box_prop n end_of-Tree = hlevel props
  box_prop n (more_of-Tree t rest) = let here = facts_prop n t in let others = box_prop n rest in hlevel (here, others, props)

  -- of the parts
  row_prop : {m : _} (n : ℕ) (r : Row_of-Tree-Split-2-1 m) → IsProp (RowFacts n r)
  row_prop n end_of-Tree-Split-2-1 = hlevel props
  row_prop n (more_of-Tree-Split-2-1 p t rest) = let here = box_prop n t in let others = row_prop n rest in hlevel (here, others, props)

-- a split tree
pub split_tree_prop : (n : ℕ) (t : Tree) → IsProp (IsSplitTree n t)
split_tree_prop n t = hlevel (facts_prop, props)

-- Split trees: the facts of all levels, their depth, and the node sets of their rigid pieces.
use Rattle.std.specs.Prelude.{ℕ, ◌+◌, ◌≤◌, max, List, [], ◌∷◌, ◌++◌, length}
use Rattle.tomo_base.specs.Limits.{graph_node_limit}
use Rattle.tomo_base.specs.declared.graph.Link.{Link}
use Rattle.tomo_base.specs.Sets.{has}
use Rattle.tomo_base.specs.Blocks.{IsNonseparable}
use Rattle.tomo_base.specs.Parting.{IsThreeConnectedIn}
use Rattle.split_tree.specs.declared.piece.Piece.{Piece}
use Rattle.split_tree.specs.declared.tree.Tree.{Tree, Small, Rigid, Split', Row_of-Tree-Split-2-1, end_of-Tree-Split-2-1, more_of-Tree-Split-2-1, Row_of-Tree, end_of-Tree, more_of-Tree}
use Rattle.split_tree.specs.Pieces.{net, IsPiece, IsCutInto}

-- the topmost piece of a tree
abbrev pub piece_of : Tree → Piece
piece_of (Small p) = p
piece_of (Rigid p) = p
piece_of (Split' p pair shape all) = p

-- the topmost pieces of the parts
abbrev mutual
  pub box_pieces : {m : _} → Row_of-Tree m → List Piece
  box_pieces end_of-Tree = []
  box_pieces (more_of-Tree t rest) = piece_of t ∷ box_pieces rest

abbrev mutual
  pub row_pieces : {m : _} → Row_of-Tree-Split-2-1 m → List Piece
  row_pieces end_of-Tree-Split-2-1 = []
  row_pieces (more_of-Tree-Split-2-1 p t rest) = box_pieces t ++ row_pieces rest

-- there are two parts, into which the two nodes cut the piece
abbrev pub IsSplit : Piece → Link → List Piece → Type 0
IsSplit p pair [] = ⊥
IsSplit p pair (l ∷ []) = ⊥
IsSplit p pair (l ∷ (r ∷ [])) = IsCutInto p pair l r
IsSplit p pair (l ∷ (r ∷ (x ∷ xs))) = ⊥

-- a small piece has at most three nodes, a rigid one is three-connected, and a split one is cut into two parts, of which the same is true
abbrev mutual
  pub Facts : ℕ → Tree → Type 0
  Facts n (Small p) = IsPiece n p × (length p.nodes ≤ 3)
  Facts n (Rigid p) = IsPiece n p × ∥ IsThreeConnectedIn (net n p) (has p.nodes) ∥₁
  Facts n (Split' p pair shape all) = IsPiece n p × IsSplit p pair (row_pieces all) × RowFacts n all

  pub BoxFacts : {m : _} → ℕ → Row_of-Tree m → Type 0
  BoxFacts n end_of-Tree = Unit {0}
  BoxFacts n (more_of-Tree t rest) = Facts n t × BoxFacts n rest

  pub RowFacts : {m : _} → ℕ → Row_of-Tree-Split-2-1 m → Type 0
  RowFacts n end_of-Tree-Split-2-1 = Unit {0}
  RowFacts n (more_of-Tree-Split-2-1 p t rest) = BoxFacts n t × RowFacts n rest

-- how many splits stand above each other, at most
abbrev mutual
  pub depth_of : Tree → ℕ
  depth_of (Small p) = 0
  depth_of (Rigid p) = 0
  depth_of (Split' p pair shape all) = row_depth all + 1

  pub box_depth : {m : _} → Row_of-Tree m → ℕ
  box_depth end_of-Tree = 0
  box_depth (more_of-Tree t rest) = max (depth_of t) (box_depth rest)

  pub row_depth : {m : _} → Row_of-Tree-Split-2-1 m → ℕ
  row_depth end_of-Tree-Split-2-1 = 0
  row_depth (more_of-Tree-Split-2-1 p t rest) = max (box_depth t) (row_depth rest)

-- the nodes of the rigid pieces
abbrev mutual
  pub rigids_of : Tree → List (List ℕ)
  rigids_of (Small p) = []
  rigids_of (Rigid p) = p.nodes ∷ []
  rigids_of (Split' p pair shape all) = row_rigids all

  pub box_rigids : {m : _} → Row_of-Tree m → List (List ℕ)
  box_rigids end_of-Tree = []
  box_rigids (more_of-Tree t rest) = rigids_of t ++ box_rigids rest

  pub row_rigids : {m : _} → Row_of-Tree-Split-2-1 m → List (List ℕ)
  row_rigids end_of-Tree-Split-2-1 = []
  row_rigids (more_of-Tree-Split-2-1 p t rest) = box_rigids t ++ row_rigids rest

-- the tree of a block with nodes below n: at least three nodes, connected, and connected without any one of them; the facts of all levels; no deeper than it has nodes
pub record IsSplitTree (n : ℕ) (t : Tree) : Type 0 where
  pub few : n ≤ graph_node_limit
  pub three : 3 ≤ length (piece_of t).nodes
  pub nonseparable : ∥ IsNonseparable (net n (piece_of t)) (has (piece_of t).nodes) ∥₁
  pub facts : Facts n t
  pub shallow : depth_of t ≤ length (piece_of t).nodes

-- Pieces that are still to be cut, and a piece that was cut.
use Rattle.std.specs.Prelude.{ℕ, ◌≢◌, ◌<◌, ◌≤◌, length, IsTrue}
use Rattle.tomo_base.specs.Limits.{graph_link_limit}
use Rattle.three_conn.specs.Parting.{IsParted}
use Rattle.three_conn.specs.declared.known.Parting.{Parting}
use Rattle.tomo_base.specs.Sets.{has}
use Rattle.tomo_base.specs.Blocks.{IsNonseparable}
use Rattle.split_tree.specs.declared.piece.Piece.{Piece}
use Rattle.split_tree.specs.declared.cutting.Halves.{Halves}
use Rattle.split_tree.specs.Pieces.{net, IsPiece, IsCutInto}

-- a piece that no single node cuts, with no more links than a graph may have
pub record IsStage (n : ℕ) (p : Piece) : Type 0 where
  pub is : IsPiece n p
  pub nonseparable : IsNonseparable (net n p) (has p.nodes)
  pub few : length p.links ≤ graph_link_limit

-- the two parts of a piece, to be cut in their turn; each has fewer nodes than the piece
pub record IsHalved (n : ℕ) (p : Piece) (h : Halves) : Type 0 where
  pub cut : IsCutInto p h.pair h.left h.right
  pub left : IsStage n h.left
  pub right : IsStage n h.right
  pub left_fewer : length h.left.nodes < length p.nodes
  pub right_fewer : length h.right.nodes < length p.nodes

-- two different nodes of the piece, and a set of its other nodes, not all, from which no link leads out but to the two
pub record IsPairCut (n : ℕ) (p : Piece) (cut : Parting) : Type 0 where
  pub differ : cut.first ≢ cut.second
  pub first : IsTrue (has p.nodes cut.first)
  pub second : IsTrue (has p.nodes cut.second)
  pub parted : IsParted (net n p) (has p.nodes) (has cut.side.items) cut.first cut.second

-- Pieces of a block, and the two parts into which two nodes cut a piece.
use Rattle.std.specs.Prelude.{ℕ, ◌≡◌, ◌≢◌, ◌<◌, ◌≤◌, ◌&&◌, ◌||◌, ◌==◌, List, length, IsTrue}
use Rattle.tomo_base.specs.declared.graph.Link.{Link}
use Rattle.tomo_base.specs.Network.{Network, joins, any_joins, linked, AreLinks}
use Rattle.tomo_base.specs.Sets.{has}
use Rattle.tomo_base.specs.SetLists.{IsSetBelow}
use Rattle.split_tree.specs.declared.piece.Piece.{Piece}

-- the links of the piece, in a graph of n nodes
abbrev pub net : ℕ → Piece → Network
net n p = record { nodes = n; links = p.links }

-- ascending nodes below n, and the different links between some of them, each with its lower end first
pub record IsPiece (n : ℕ) (p : Piece) : Type 0 where
  pub set : IsSetBelow n p.nodes
  pub links : AreLinks n p.links
  pub ends : (u v : ℕ) → IsTrue (any_joins p.links u v) → IsTrue (has p.nodes u && has p.nodes v)

-- a part of a piece at two nodes: the two and some of the sets that are connected without them, as no link leads out of it but at the two;
-- its links are those of the piece between its nodes, and the link between the two
pub record IsPartAt (whole : Piece) (pair : Link) (part : Piece) : Type 0 where
  pub inside : (v : ℕ) → IsTrue (has part.nodes v) → IsTrue (has whole.nodes v)
  pub first : IsTrue (has part.nodes pair.a)
  pub second : IsTrue (has part.nodes pair.b)
  pub more : 3 ≤ length part.nodes
  pub shut : (u v : ℕ) → IsTrue (has part.nodes u) → u ≢ pair.a → u ≢ pair.b → IsTrue (any_joins whole.links u v) → IsTrue (has part.nodes v)
  pub links : (u v : ℕ) → any_joins part.links u v ≡ ((any_joins whole.links u v && (has part.nodes u && has part.nodes v)) || joins pair u v)

-- two nodes cut a piece into two parts, which share the two alone and have all its nodes
pub record IsCutInto (whole : Piece) (pair : Link) (left right : Piece) : Type 0 where
  pub ordered : pair.a < pair.b
  pub one : IsPartAt whole pair left
  pub other : IsPartAt whole pair right
  pub cover : (v : ℕ) → IsTrue (has whole.nodes v) → IsTrue (has left.nodes v || has right.nodes v)
  pub shared : (v : ℕ) → IsTrue (has left.nodes v) → IsTrue (has right.nodes v) → IsTrue ((v == pair.a) || (v == pair.b))

-- the nodes and all links between them in the graph
pub record IsPieceOf (g : Network) (nodes : List ℕ) (p : Piece) : Type 0 where
  pub nodes_are : p.nodes ≡ nodes
  pub links_are : (u v : ℕ) → any_joins p.links u v ≡ (linked g u v && (has nodes u && has nodes v))

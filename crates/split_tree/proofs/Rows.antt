-- The rigid pieces of a split tree, by the list of its parts.
use Rattle.std.proofs.Common.{◌≡◌, List, [], ◌∷◌, ◌++◌, refl, ap₂}
use Rattle.std.specs.List.{flat_map}
use Rattle.std.proofs.lemmas.List.{append-nil}
use Rattle.tomo_base.specs.declared.graph.Link.{Link}
use Rattle.split_tree.specs.declared.piece.Piece.{Piece}
use Rattle.split_tree.specs.declared.tree.Tree.{Tree, Split}
use Rattle.split_tree.specs.Trees.{rigids_of}

-- those of the parts, one after the other
pub rigids_split : (p : Piece) (pair : Link) (ts : List Tree) → rigids_of (Split p pair ts) ≡ flat_map rigids_of ts
unfolding Rattle.split_tree.specs.declared.tree.Tree.TheBlock.hidden-the_row-Tree-Split-2-1-1 denote.Hole.Carrier.hidden
rigids_split p pair [] = refl
rigids_split p pair (t ∷ ts) = ap₂ (λ (xs ys : List (List _)). xs ++ ys) (append-nil (rigids_of t)) (rigids_split p pair ts)

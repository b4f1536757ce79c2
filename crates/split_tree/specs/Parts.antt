-- A part of a piece by marks on its nodes, and links that do not lead out of marked nodes.
use Rattle.std.specs.Prelude.{ℕ, ◌≡◌, ◌+◌, ◌≤◌, not, ◌&&◌, ◌||◌, ◌==◌, Bool, List, length}
use Rattle.std.specs.List.{filter}
use Rattle.tomo_base.specs.declared.graph.Link.{Link}
use Rattle.tomo_base.specs.Network.{joins, any_joins, AreLinks}
use Rattle.tomo_base.specs.Search.{mark_of}
use Rattle.split_tree.specs.declared.piece.Piece.{Piece}

-- both ends of the link have a mark
abbrev pub is_inside : List Bool → Link → Bool
is_inside marks l = mark_of marks l.a && mark_of marks l.b

-- the marked nodes, the links between them, and the link more, which is joined once
pub record IsMarkedPart (n : ℕ) (whole : Piece) (marks : List Bool) (pair : Link) (part : Piece) : Type 0 where
  pub nodes_are : part.nodes ≡ filter (mark_of marks) whole.nodes
  pub graph : AreLinks n part.links
  pub links_are : (u v : ℕ) → any_joins part.links u v ≡ (any_joins (filter (is_inside marks) whole.links) u v || joins pair u v)
  pub few : length part.links ≤ length (filter (is_inside marks) whole.links) + 1

-- the node has no mark
abbrev pub is_unmarked : List Bool → ℕ → Bool
is_unmarked marks v = not (mark_of marks v)

-- a step from u to v does not lead out of the set, but to c or d
abbrev pub step_stays : (ℕ → Bool) → ℕ → ℕ → ℕ → ℕ → Bool
step_stays q c d u v = not (q u) || (q v || ((v == c) || (v == d)))

-- nor does a step over the link, in either direction
abbrev pub link_stays : (ℕ → Bool) → ℕ → ℕ → Link → Bool
link_stays q c d l = step_stays q c d l.a l.b && step_stays q c d l.b l.a

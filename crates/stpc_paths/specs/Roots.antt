-- Whose path a link has: the link from a node to a parent has the node's path for that tree and the next one, unless the parent has the same path.
use Rattle.std.specs.Prelude.{ℕ, ◌≡◌, ◌+◌, ◌<◌, ◌==◌, Bool, true, false, if◌then◌else◌, Option, Some, None}
use Rattle.tomo_base.specs.declared.graph.Link.{Link}
use Rattle.tomo_base.specs.Network.{joins}
use Rattle.stpc_paths.specs.declared.roots.Root.{Root}

-- the tree after a tree, in a circle
abbrev pub after : ℕ → ℕ
after i = if i == 2 then 0 else i + 1

-- a node and its parent name each other: the parent is no monitor, and its parent in the next tree is the node
abbrev pub NameEachOther : (ℕ → Bool) → (ℕ → ℕ → ℕ) → ℕ → ℕ → Type 0
NameEachOther m parent i v = (m (parent i v) ≡ false) × (parent (after i) (parent i v) ≡ v)

-- the link between v and w has the path of v for tree i and the next: w is the parent of v in tree i, and the two do not name each other
pub record Owns (m : ℕ → Bool) (parent : ℕ → ℕ → ℕ) (i v w : ℕ) : Type 0 where
  pub free : m v ≡ false
  pub parent_is : parent i v ≡ w
  pub alone : NameEachOther m parent i v → ⊥

-- neither end of the link between v and w does
abbrev pub NoneOwns : (ℕ → Bool) → (ℕ → ℕ → ℕ) → ℕ → ℕ → Type 0
NoneOwns m parent v w = (i : ℕ) → i < 3 → (Owns m parent i v w → ⊥) × (Owns m parent i w v → ⊥)

-- the first of the two trees of a path
abbrev pub tree_of : Option ℕ → ℕ
tree_of (Some i) = i
tree_of None = 0

-- the node at which the second part of a path begins: the next parent of the node, or the other end of the link
abbrev pub second_start : (ℕ → ℕ → ℕ) → ℕ → ℕ → Option ℕ → ℕ
second_start parent v w (Some i) = parent (after i) v
second_start parent v w None = w

-- the node owns the link by its tree; or neither end does, and the node has the lower number
abbrev pub IsOwned : (ℕ → Bool) → (ℕ → ℕ → ℕ) → (ℕ → ℕ) → ℕ → ℕ → Option ℕ → Type 0
IsOwned m parent number v w (Some i) = (i < 3) × Owns m parent i v w
IsOwned m parent number v w None = NoneOwns m parent v w × (number v < number w)

-- the root joins the ends of the link, and is the one that the link's path has
pub record IsRoot (m : ℕ → Bool) (parent : ℕ → ℕ → ℕ) (number : ℕ → ℕ) (l : Link) (r : Root) : Type 0 where
  pub ends : joins l r.node r.other ≡ true
  pub owned : IsOwned m parent number r.node r.other r.tree

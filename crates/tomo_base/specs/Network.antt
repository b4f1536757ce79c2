-- A graph as a number of nodes and a list of links.
use Rattle.std.specs.Prelude.{ℕ, ◌≡◌, ◌<◌, Bool, false, ◌&&◌, ◌||◌, ◌==◌, List, [], ◌∷◌}
use Rattle.tomo_base.specs.declared.graph.Link.{Link}

-- a graph is a number of nodes and a list of links
pub record Network : Type 0 where
  pub nodes : ℕ
  pub links : List Link

-- the link has the ends a and b, in either order
unfoldable pub joins : Link → ℕ → ℕ → Bool
joins l a b = (l.a == a && l.b == b) || (l.a == b && l.b == a)

-- some link of the list has the ends a and b
unfoldable pub any_joins : List Link → ℕ → ℕ → Bool
any_joins [] a b = false
any_joins (l ∷ ls) a b = joins l a b || any_joins ls a b

-- a link of the graph joins a and b
abbrev pub linked : Network → ℕ → ℕ → Bool
linked g a b = any_joins g.links a b

-- each link runs from a lower to a higher node below n, and no later link joins the same two nodes
abbrev pub AreLinks : ℕ → List Link → Type 0
AreLinks n [] = Unit {0}
AreLinks n (l ∷ ls) = (l.a < l.b) × (l.b < n) × (any_joins ls l.a l.b ≡ false) × AreLinks n ls

-- a graph: all its links are different, and each joins two different nodes
abbrev pub IsGraph : Network → Type 0
IsGraph g = AreLinks g.nodes g.links

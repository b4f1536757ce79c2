-- The placement rule: begin with the nodes of degree below three, then fill every three-block, every block of at least three nodes, and the set of all nodes.
use Rattle.std.specs.Prelude.{ℕ, ◌≡◌, ◌-◌, ◌<◌, ◌≤◌, ◌⊎◌, Bool, ◌&&◌, ◌||◌, nat_lt, IsTrue, List, [], ◌∷◌}
use Rattle.tomo_base.specs.Network.{Network}
use Rattle.tomo_base.specs.Sets.{has, count, size, degree, touches, minus, complement}
use Rattle.tomo_base.specs.Blocks.{IsBlock, IsThreeBlock}
use Rattle.tomo_base.specs.SetLists.{AreSetsWith}

-- all nodes
abbrev pub every_node : Network → ℕ → Bool
every_node g v = nat_lt v g.nodes

-- the nodes of degree below three
abbrev pub narrow : Network → ℕ → Bool
narrow g v = every_node g v && nat_lt (degree g v) 3

-- the nodes of x that count: those of m, and those with a neighbour outside x
abbrev pub counting : Network → (ℕ → Bool) → (ℕ → Bool) → ℕ → Bool
counting g x m v = x v && (m v || touches g (complement x) v)

-- how many are wanting until three nodes of x count
abbrev pub wanting : Network → (ℕ → Bool) → (ℕ → Bool) → ℕ
wanting g x m = 3 - size g (counting g x m)

-- the nodes of x that do not count
abbrev pub idle : Network → (ℕ → Bool) → (ℕ → Bool) → ℕ → Bool
idle g x m v = minus x (counting g x m) v

-- m with the least nodes of x that do not count, as many as are wanting
abbrev pub filled : Network → (ℕ → Bool) → (ℕ → Bool) → ℕ → Bool
filled g x m v = m v || (idle g x m v && nat_lt (count v (idle g x m)) (wanting g x m))

-- the sets of a list filled one after the other
abbrev pub filled_each : Network → List (List ℕ) → (ℕ → Bool) → ℕ → Bool
filled_each g [] m = m
filled_each g (x ∷ xs) m = filled_each g xs (filled g (has x) m)

-- what is placed with these three-blocks and these blocks: all of them are filled, and the set of all nodes last
abbrev pub placed_by : Network → List (List ℕ) → List (List ℕ) → ℕ → Bool
placed_by g three_blocks blocks v = filled g (every_node g) (filled_each g blocks (filled_each g three_blocks (narrow g))) v

-- a block of at least three nodes
abbrev pub IsLargeBlock : Network → (ℕ → Bool) → Type 0
IsLargeBlock g b = IsBlock g b × (3 ≤ size g b)

-- m is what the rule places: sets of one kind may be filled in any order
pub record IsPlacedByRule (g : Network) (m : ℕ → Bool) : Type 0 where
  pub three_blocks : List (List ℕ)
  pub blocks : List (List ℕ)
  pub all_three_blocks : AreSetsWith g.nodes (IsThreeBlock g) three_blocks
  pub all_blocks : AreSetsWith g.nodes (IsLargeBlock g) blocks
  pub placed : (v : ℕ) → v < g.nodes → m v ≡ placed_by g three_blocks blocks v

-- a set of nodes that the rule fills: a three-block, a block of at least three nodes, or all nodes
abbrev pub IsRuleSet : Network → (ℕ → Bool) → Type 0
IsRuleSet g x = ((v : ℕ) → IsTrue (x v) → v < g.nodes) × (IsThreeBlock g x ⊎ (IsLargeBlock g x ⊎ ((v : ℕ) → v < g.nodes → IsTrue (x v))))

-- the nodes of x with all neighbours in x
abbrev pub free_nodes : Network → (ℕ → Bool) → ℕ → Bool
free_nodes g x v = minus x (touches g (complement x)) v

-- fewer than three nodes of x count
abbrev pub IsShortSet : Network → (ℕ → Bool) → (ℕ → Bool) → Type 0
IsShortSet g m x = size g (counting g x m) < 3

-- m passes the tests of the rule: it holds each node of degree below three, and no three-block, no block of at least three nodes and not the set of all nodes is short
pub record PassesRule (g : Network) (m : ℕ → Bool) : Type 0 where
  pub narrow_nodes : (v : ℕ) → v < g.nodes → IsTrue (narrow g v) → IsTrue (m v)
  pub three_blocks : (t : ℕ → Bool) → IsThreeBlock g t → IsShortSet g m t → ⊥
  pub blocks : (b : ℕ → Bool) → IsLargeBlock g b → IsShortSet g m b → ⊥
  pub all_nodes : IsShortSet g m (every_node g) → ⊥

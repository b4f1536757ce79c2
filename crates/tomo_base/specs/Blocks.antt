-- Cut vertices, blocks, and the three-blocks of a block: the parts of a graph that one node, and that two nodes, cannot part.
use Rattle.std.specs.Prelude.{ℕ, ◌≢◌, ◌<◌, ◌≤◌, Bool, IsTrue}
use Rattle.tomo_base.specs.Network.{Network}
use Rattle.tomo_base.specs.Sets.{size, without, IsInside}
use Rattle.tomo_base.specs.Parting.{without_two}
use Rattle.tomo_base.specs.Walks.{Reaches, IsConnectedIn, everything}

-- a node without which the graph is not connected
pub record IsCutVertex (g : Network) (v : ℕ) : Type 0 where
  pub node : v < g.nodes
  pub parts : IsConnectedIn g (without everything v) → ⊥

-- at least two nodes, connected, and connected without any one of them
pub record IsNonseparable (g : Network) (s : ℕ → Bool) : Type 0 where
  pub two : 2 ≤ size g s
  pub connected : IsConnectedIn g s
  pub without_one : (c : ℕ) → IsTrue (s c) → IsConnectedIn g (without s c)

-- a block: a largest set of this kind
pub record IsBlock (g : Network) (b : ℕ → Bool) : Type 0 where
  pub nonseparable : IsNonseparable g b
  pub largest : (s : ℕ → Bool) → IsNonseparable g s → IsInside g b s → IsInside g s b

-- c and d are two other nodes of the set, and no walk inside it without them leads from x to y
pub record ArePartedBy (g : Network) (b : ℕ → Bool) (x y c d : ℕ) : Type 0 where
  pub first : IsTrue (b c)
  pub second : IsTrue (b d)
  pub differ : c ≢ d
  pub first_other : (c ≢ x) × (c ≢ y)
  pub second_other : (d ≢ x) × (d ≢ y)
  pub no_walk : Reaches g (without_two b c d) x y → ⊥

-- no two nodes of t are parted by any two other nodes of b, inside b
abbrev pub IsUnparted : Network → (ℕ → Bool) → (ℕ → Bool) → Type 0
IsUnparted g b t = (x y c d : ℕ) → x < g.nodes → y < g.nodes → IsTrue (t x) → IsTrue (t y) → x ≢ y → c < g.nodes → d < g.nodes → ArePartedBy g b x y c d → ⊥

-- a three-block of b: a largest set of at least four of its nodes no two of which are parted
pub record IsThreeBlockOf (g : Network) (b t : ℕ → Bool) : Type 0 where
  pub inside : IsInside g t b
  pub four : 4 ≤ size g t
  pub unparted : IsUnparted g b t
  pub largest : (s : ℕ → Bool) → IsInside g s b → IsUnparted g b s → IsInside g t s → IsInside g s t

-- a three-block of some block of the graph
abbrev pub IsThreeBlock : Network → (ℕ → Bool) → Type 0
IsThreeBlock g t = (b : ℕ → Bool) × IsBlock g b × IsThreeBlockOf g b t

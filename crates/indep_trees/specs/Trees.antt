-- Independent trees: each node that is no monitor has three parents, and its three paths to monitors share that node alone.
use Rattle.std.specs.Prelude.{ℕ, zero, suc, ◌≡◌, ◌≢◌, ◌<◌, Bool, false, List, [], ◌∷◌, IsTrue}
use Rattle.tomo_base.specs.Network.{Network, linked}
use Rattle.tomo_base.specs.Sets.{has}
use Rattle.tomo_base.specs.Search.{entry_at}

-- the list leads from v to parent after parent, up to the first monitor
abbrev pub Climbs : (ℕ → Bool) → (ℕ → ℕ) → ℕ → List ℕ → Type 0
Climbs m parent v [] = IsTrue (m v)
Climbs m parent v (w ∷ p) = (m v ≡ false) × (w ≡ parent v) × Climbs m parent w p

-- v is a node and no monitor
abbrev pub IsFree : Network → (ℕ → Bool) → ℕ → Type 0
IsFree g m v = (v < g.nodes) × (m v ≡ false)

-- a number for each node and three parents for each node that is no monitor: the first parent has a lower number, the second a higher one,
-- and the paths of a node in two of the trees share that node alone
pub record AreIndependent (g : Network) (m : ℕ → Bool) (number : ℕ → ℕ) (parent : ℕ → ℕ → ℕ) : Type 0 where
  pub numbers : (v : ℕ) → v < g.nodes → number v < g.nodes
  pub once : (v w : ℕ) → v < g.nodes → w < g.nodes → number v ≡ number w → v ≡ w
  pub linked : (i v : ℕ) → i < 3 → IsFree g m v → IsTrue (linked g v (parent i v))
  pub lower : (v : ℕ) → IsFree g m v → number (parent 0 v) < number v
  pub higher : (v : ℕ) → IsFree g m v → number v < number (parent 1 v)
  pub path : (i v : ℕ) → i < 3 → v < g.nodes → (p : List ℕ) × Climbs m (parent i) v p
  pub share : (i j v w : ℕ) (p q : List ℕ) → i < 3 → j < 3 → i ≢ j → IsFree g m v → Climbs m (parent i) v p → Climbs m (parent j) v q →
      IsTrue (has (v ∷ p) w) → IsTrue (has (v ∷ q) w) → w ≡ v

-- a graph and its monitors, a number for each node, and the parents of each node in the three trees
pub record Trees : Type 0 where
  pub graph : Network
  pub monitors : List ℕ
  pub numbers : List ℕ
  pub first : List ℕ
  pub second : List ℕ
  pub third : List ℕ

-- the number of a node
abbrev pub rank_in : Trees → ℕ → ℕ
rank_in t v = entry_at t.numbers v

-- the parent of a node in the tree i
abbrev pub parent_in : Trees → ℕ → ℕ → ℕ
parent_in t zero v = entry_at t.first v
parent_in t (suc zero) v = entry_at t.second v
parent_in t (suc (suc i)) v = entry_at t.third v

-- the trees are independent
abbrev pub AreTrees : Trees → Type 0
AreTrees t = AreIndependent t.graph (has t.monitors) (rank_in t) (parent_in t)

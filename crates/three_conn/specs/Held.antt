-- The root of a set of nodes, and nodes that no two others part from it.
use Rattle.std.specs.Prelude.{ℕ, ◌≡◌, ◌≢◌, Bool, not, ◌&&◌, length, IsTrue}
use Rattle.tomo_base.specs.Network.{Network, linked}
use Rattle.tomo_base.specs.Walks.{Reaches, IsConnectedIn}
use Rattle.tomo_base.specs.Search.{mark_of}
use Rattle.tomo_base.specs.Parting.{without_two}
use Rattle.three_conn.specs.declared.known.Known.{Known}

-- the root, its neighbours in the set, and further nodes: no two nodes other than the root part a node that is held from it
pub record IsHeld (g : Network) (w : ℕ → Bool) (root : ℕ) (held : ℕ → Bool) : Type 0 where
  pub root_in : IsTrue (w root)
  pub root_held : IsTrue (held root)
  pub near : (v : ℕ) → IsTrue (linked g root v) → IsTrue (w v) → IsTrue (held v)
  pub joined : (c d v : ℕ) → c ≢ root → d ≢ root → IsTrue (held v) → IsTrue (without_two w c d v) → Reaches g (without_two w c d) root v

-- no two nodes other than the root part the set
abbrev pub IsWholeBeside : Network → (ℕ → Bool) → ℕ → Type 0
IsWholeBeside g w root = (c d : ℕ) → c ≢ root → d ≢ root → IsConnectedIn g (without_two w c d)

-- no single node but the root parts the set
abbrev pub IsWholeButAt : Network → (ℕ → Bool) → ℕ → Type 0
IsWholeButAt g w root = (c : ℕ) → c ≢ root → IsConnectedIn g (without_two w c c)

-- no two nodes of which one is this node part the set
abbrev pub IsWholeWith : Network → (ℕ → Bool) → ℕ → Type 0
IsWholeWith g w c = (d : ℕ) → IsConnectedIn g (without_two w c d)

-- what is known of the set
pub record IsKnown (g : Network) (w : ℕ → Bool) (known : Known) : Type 0 where
  pub marks : length known.held.items ≡ g.nodes
  pub held : IsHeld g w known.root (mark_of known.held.items)

-- the nodes of the set that are not held
abbrev pub IsRest : (ℕ → Bool) → (ℕ → Bool) → (ℕ → Bool) → Type 0
IsRest w held free = (v : ℕ) → free v ≡ (w v && not (held v))

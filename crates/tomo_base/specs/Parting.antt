-- Closed sets of nodes, which no link leaves inside a set; nodes that no closed set parts; and sets that stay joined without one or two of their nodes.
use Rattle.std.specs.Prelude.{ℕ, ◌≤◌, Bool, ◌||◌, ◌==◌, IsTrue}
use Rattle.tomo_base.specs.Network.{Network, linked}
use Rattle.tomo_base.specs.Sets.{size, minus, without}
use Rattle.tomo_base.specs.Walks.{IsConnectedIn}

-- the set with the node u
abbrev pub with_one : (ℕ → Bool) → ℕ → ℕ → Bool
with_one q u v = q v || (v == u)

-- the set without c and d, where it has them
abbrev pub without_two : (ℕ → Bool) → ℕ → ℕ → ℕ → Bool
without_two q c d = without (without q c) d

-- no link leads from x to a node of q outside x
abbrev pub IsClosedIn : Network → (ℕ → Bool) → (ℕ → Bool) → Type 0
IsClosedIn g q x = (u v : ℕ) → IsTrue (x u) → IsTrue (linked g u v) → IsTrue (q v) → IsTrue (x v)

-- each set closed in q that holds a holds b
abbrev pub AreJoinedIn : Network → (ℕ → Bool) → ℕ → ℕ → Type 0
AreJoinedIn g q a b = (x : ℕ → Bool) → IsClosedIn g q x → IsTrue (x a) → IsTrue (x b)

-- no closed set parts two of its nodes
abbrev pub IsJoinedIn : Network → (ℕ → Bool) → Type 0
IsJoinedIn g q = (a b : ℕ) → IsTrue (q a) → IsTrue (q b) → AreJoinedIn g q a b

-- joined without any one node
abbrev pub IsJoinedWithoutOne : Network → (ℕ → Bool) → Type 0
IsJoinedWithoutOne g q = (c : ℕ) → IsJoinedIn g (without q c)

-- joined without any two nodes
abbrev pub IsJoinedWithoutTwo : Network → (ℕ → Bool) → Type 0
IsJoinedWithoutTwo g q = (c d : ℕ) → IsJoinedIn g (without_two q c d)

-- at least four nodes of the set, and it is connected without any at most two nodes
pub record IsThreeConnectedIn (g : Network) (q : ℕ → Bool) : Type 0 where
  pub four : 4 ≤ size g q
  pub whole : (c : ℕ → Bool) → size g c ≤ 2 → IsConnectedIn g (minus q c)

-- Links from free nodes to other nodes of a set.
use Rattle.std.specs.Prelude.{ℕ, ◌≡◌, ◌≢◌, ◌⊎◌, Bool, false, List, IsTrue}
use Rattle.tomo_base.specs.Network.{Network, linked}
use Rattle.tomo_base.specs.Sets.{has}
use Rattle.gate_search.specs.declared.gates.Gate.{Gate}

-- a link from the inner node to a node of the set that is not free, other than c and d
pub record IsGate (g : Network) (w free : ℕ → Bool) (inner c d outer : ℕ) : Type 0 where
  pub linked : IsTrue (linked g inner outer)
  pub in_set : IsTrue (w outer)
  pub not_free : free outer ≡ false
  pub not_first : outer ≢ c
  pub not_second : outer ≢ d

-- all such links lead to c and d
abbrev pub HasNoGate : Network → (ℕ → Bool) → (ℕ → Bool) → ℕ → ℕ → ℕ → Type 0
HasNoGate g w free inner c d = (v : ℕ) → IsTrue (linked g inner v) → IsTrue (w v) → free v ≡ false → (v ≡ c) ⊎ (v ≡ d)

-- a gate of a node of the list
abbrev pub IsGateOf : Network → (ℕ → Bool) → (ℕ → Bool) → List ℕ → ℕ → ℕ → Gate → Type 0
IsGateOf g w free order c d e = IsTrue (has order e.inner) × IsGate g w free e.inner c d e.outer

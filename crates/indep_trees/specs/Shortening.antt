-- Parents from which fewer steps may lead to a monitor.
use Rattle.std.specs.Prelude.{ℕ, ◌≡◌, ◌⊎◌, ◌<◌, ◌≤◌, true, List}
use Rattle.tomo_base.specs.Network.{Network, linked}
use Rattle.tomo_base.specs.Search.{entry_at}

-- w is a neighbour of v with a lower number, on an ear that is not later
abbrev pub IsLow : Network → (ℕ → ℕ) → (ℕ → ℕ) → ℕ → ℕ → Type 0
IsLow g number ear v w = (linked g v w ≡ true) × (number w < number v) × (ear w ≤ ear v)

-- w is a neighbour of v with a higher number, on an ear that is not later
abbrev pub IsHigh : Network → (ℕ → ℕ) → (ℕ → ℕ) → ℕ → ℕ → Type 0
IsHigh g number ear v w = (linked g v w ≡ true) × (number v < number w) × (ear w ≤ ear v)

-- w is a neighbour of v on a later ear
abbrev pub IsLater : Network → (ℕ → ℕ) → ℕ → ℕ → Type 0
IsLater g ear v w = (linked g v w ≡ true) × (ear v < ear w)

-- each node has the parent that it had, or one of this kind
abbrev pub AreChosen : (ℕ → ℕ → Type 0) → List ℕ → List ℕ → Type 0
AreChosen kind old new = (v : ℕ) → (entry_at new v ≡ entry_at old v) ⊎ kind v (entry_at new v)

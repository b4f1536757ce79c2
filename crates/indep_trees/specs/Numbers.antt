-- The place of a node in a list, and neighbours on later ears.
use Rattle.std.specs.Prelude.{ℕ, suc, ◌≡◌, ◌<◌, cond, eqb, true, List, [], ◌∷◌}
use Rattle.tomo_base.specs.Network.{Network, linked}

-- the first place of a node
unfoldable pub spot : ℕ → List ℕ → ℕ
spot v [] = 0
spot v (a ∷ l) = cond (eqb a v) 0 (suc (spot v l))

-- some neighbour is on a later ear
abbrev pub HasLater : Network → (ℕ → ℕ) → ℕ → Type 0
HasLater g ear v = (w : ℕ) × (linked g v w ≡ true) × (ear v < ear w)

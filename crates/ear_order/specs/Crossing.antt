-- Zones through which a path must cross.
use Rattle.std.specs.Prelude.{ℕ, ◌≡◌, Bool, true}
use Rattle.tomo_base.specs.Network.{Network, linked}
use Rattle.tomo_base.specs.Parting.{IsClosedIn}

-- whatever is reached from the old node e through the zone, it touches another old node
abbrev pub Crosses : Network → (ℕ → Bool) → (ℕ → Bool) → ℕ → Type 0
Crosses g old zone e = (q : ℕ → Bool)
    → ((w : ℕ) → linked g e w ≡ true → zone w ≡ true → q w ≡ true)
    → IsClosedIn g zone q
    → ((v w : ℕ) → zone v ≡ true → q v ≡ true → linked g v w ≡ true → old w ≡ true → w ≡ e)
    → ⊥

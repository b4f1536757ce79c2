-- What a step of growing tells of the free nodes of a set.
use Rattle.std.specs.Prelude.{ℕ, ◌≡◌, ◌<◌, ◌⊎◌, Bool, true, false, IsTrue}
use Rattle.tomo_base.specs.Network.{Network, linked}
use Rattle.tomo_base.specs.Sets.{has, Within}
use Rattle.tomo_base.specs.Walks.{Reaches}
use Rattle.tomo_base.specs.declared.search.Swept.{Swept}
use Rattle.tomo_base.specs.Parting.{without_two}
use Rattle.three_conn.specs.declared.known.Growth.{Growth}
use Rattle.three_conn.specs.declared.known.Growth.TheVariants.{More, Parted}

-- without any two nodes, a walk leads from u to a node of the set that is not free
abbrev pub HasWaysOut : Network → (ℕ → Bool) → (ℕ → Bool) → ℕ → Type 0
HasWaysOut g w free u = (c d : ℕ) → (v : ℕ) × (free v ≡ false) × IsTrue (without_two w c d v) × Reaches g (without_two w c d) u v

-- no node, or one that is not free and that a link joins to the side
abbrev pub IsGateway : Network → (ℕ → Bool) → (ℕ → Bool) → ℕ → Type 0
IsGateway g free side e = (e ≡ g.nodes) ⊎ ((free e ≡ false) × (u : ℕ) × IsTrue (side u) × IsTrue (linked g u e))

-- some free nodes, from which links lead to other nodes of the set only over c and d
pub record IsShutOff (g : Network) (w free side : ℕ → Bool) (c d : ℕ) : Type 0 where
  pub some : (v : ℕ) × IsTrue (side v)
  pub inside : Within side free
  pub shut : (u v : ℕ) → IsTrue (side u) → IsTrue (linked g u v) → IsTrue (w v) → IsTrue (side v) ⊎ ((v ≡ c) ⊎ (v ≡ d))
  pub first : IsGateway g free side c
  pub second : IsGateway g free side d

-- one free node has ways out, or what the search has reached is shut off
abbrev pub IsGrowth : Network → (ℕ → Bool) → (ℕ → Bool) → Swept → Growth → Type 0
IsGrowth g w free s (More u) = (u < g.nodes) × (free u ≡ true) × HasWaysOut g w free u
IsGrowth g w free s (Parted c d) = IsShutOff g w free (has s.order.items) c d

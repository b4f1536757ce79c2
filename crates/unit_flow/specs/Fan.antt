-- Three paths from a node to a set, or the least set that fewer than three nodes cut off.
use Rattle.std.specs.Prelude.{ℕ, ◌≡◌, ◌<◌, ◌≤◌, Bool, List, [], length, All}
use Rattle.tomo_base.specs.Network.{Network}
use Rattle.tomo_base.specs.Sets.{has, IsInside}
use Rattle.tomo_base.specs.BadParts.{IsCutOff}
use Rattle.unit_flow.specs.declared.fans.Fanned.{Fanned}
use Rattle.unit_flow.specs.declared.fans.Fanned.TheVariants.{Three, Few}
use Rattle.unit_flow.specs.Flows.{no_paths, IsFlow, routing_task}

-- k nodes cut q off; no set with v and without nodes of m is cut off by fewer, and q lies in each that k nodes cut off
pub record IsLeastCutOff (g : Network) (m : ℕ → Bool) (v k : ℕ) (q : ℕ → Bool) : Type 0 where
  pub cut : IsCutOff g m v k q
  pub no_fewer : (p : ℕ → Bool) (j : ℕ) → IsCutOff g m v j p → k ≤ j
  pub least : (p : ℕ → Bool) → IsCutOff g m v k p → IsInside g q p

-- from v to nodes of m: a flow of three paths, so that at least three nodes cut v off; or the least set that fewer cut off
abbrev pub IsFan : Network → ℕ → List ℕ → Fanned → Type 0
IsFan g v m (Three flow) =
    (flow ≡ record (no_paths g v m []) { paths = flow.paths }) × IsFlow (routing_task flow) flow.paths × (length flow.paths ≡ 3) × ((p : ℕ → Bool) (k : ℕ) → IsCutOff g (has m) v k p → 3 ≤ k)
IsFan g v m (Few q) = (k : ℕ) × (k < 3) × IsLeastCutOff g (has m) v k (has q) × All (λ u. u < g.nodes) q

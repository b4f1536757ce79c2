-- What the extended graph tells of the monitors.
use Rattle.std.specs.Prelude.{ℕ, ◌<◌, ◌≤◌, ◌↔◌, List, All}
use Rattle.tomo_base.specs.Network.{Network, IsGraph}
use Rattle.tomo_base.specs.Sets.{has}
use Rattle.tomo_base.specs.Walks.{IsConnected}
use Rattle.tomo_base.specs.BadParts.{NoBadPart}
use Rattle.tomo_base.specs.Cuts.{extended, IsThreeConnected}

-- for a connected graph of at least three nodes the extended graph is three-connected exactly where the monitors have no bad part
abbrev pub ThreeConnectedByMonitors : Type 0
ThreeConnectedByMonitors = (g : Network) (m : List ℕ) → IsGraph g → IsConnected g → 3 ≤ g.nodes → All (λ v. v < g.nodes) m → (IsThreeConnected (extended g m) ↔ NoBadPart g (has m))

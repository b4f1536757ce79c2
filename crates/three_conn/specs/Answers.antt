-- What the test of a graph answers.
use Rattle.std.specs.Prelude.{ℕ, ◌<◌, ◌≤◌, List, length, All}
use Rattle.std.specs.List.Sorted.{IsStrictlyIncreasing}
use Rattle.tomo_base.specs.Network.{Network}
use Rattle.tomo_base.specs.Sets.{has, complement}
use Rattle.tomo_base.specs.Walks.{IsConnectedIn}
use Rattle.tomo_base.specs.Cuts.{IsThreeConnected}
use Rattle.three_conn.specs.declared.connection.Conn.{Conn}
use Rattle.three_conn.specs.declared.connection.Conn.TheVariants.{Yes, Few, Cut}

-- at most two of four nodes or more, in ascending order, without which the graph is not connected
pub record IsSeparating (g : Network) (nodes : List ℕ) : Type 0 where
  pub four : 4 ≤ g.nodes
  pub few : length nodes ≤ 2
  pub below : All (λ v. v < g.nodes) nodes
  pub ascending : IsStrictlyIncreasing nodes
  pub apart : IsConnectedIn g (complement (has nodes)) → ⊥

-- three-connected; or fewer than four nodes; or at most two of them part the others
abbrev pub IsConn : Network → Conn → Type 0
IsConn g Yes = IsThreeConnected g
IsConn g Few = g.nodes < 4
IsConn g (Cut nodes) = IsSeparating g nodes

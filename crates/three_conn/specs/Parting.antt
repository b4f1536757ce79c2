-- Two nodes that part a set.
use Rattle.std.specs.Prelude.{ℕ, ◌≡◌, ◌<◌, ◌≤◌, Bool, false, IsTrue}
use Rattle.tomo_base.specs.Network.{Network}
use Rattle.tomo_base.specs.Sets.{has}
use Rattle.tomo_base.specs.Parting.{without_two, IsClosedIn}
use Rattle.three_conn.specs.declared.known.Parting.{Parting}

-- without c and d no link leads from the side to the rest of the set, and either of them has a node
pub record IsParted (g : Network) (w side : ℕ → Bool) (c d : ℕ) : Type 0 where
  pub inside : (v : ℕ) → IsTrue (side v) → IsTrue (without_two w c d v)
  pub shut : IsClosedIn g (without_two w c d) side
  pub some : (v : ℕ) × (v < g.nodes) × IsTrue (side v)
  pub rest : (v : ℕ) × (v < g.nodes) × IsTrue (without_two w c d v) × (side v ≡ false)

-- two nodes that part the set, or fewer: the number of nodes stands for none
pub record IsParting (g : Network) (w : ℕ → Bool) (p : Parting) : Type 0 where
  pub parted : IsParted g w (has p.side.items) p.first p.second
  pub first_most : p.first ≤ g.nodes
  pub second_most : p.second ≤ g.nodes

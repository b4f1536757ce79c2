-- Leaving a node out of a set of monitors.
use Rattle.std.specs.Prelude.{ℕ, ◌≡◌, ◌<◌, Bool, List, All}
use Rattle.tomo_base.specs.Network.{Network}
use Rattle.tomo_base.specs.Sets.{has, without}
use Rattle.ident_laws.specs.Laws.{HasOwnPocket}

-- the nodes of rest are those of the set without u, which has no pocket of its own
pub record LeavesOut (g : Network) (m : ℕ → Bool) (u : ℕ) (rest : List ℕ) : Type 0 where
  pub rest_is : (v : ℕ) → has rest v ≡ without m u v
  pub nodes : All (λ v. v < g.nodes) rest
  pub none : HasOwnPocket g m u → ⊥

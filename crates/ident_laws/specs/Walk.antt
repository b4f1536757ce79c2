-- A walk that tries the nodes by falling rank, and leaves out each that can be left out: how it begins, goes on and ends.
use Rattle.std.specs.Prelude.{ℕ, ◌≡◌, ◌<◌, ◌≤◌, ◌⊎◌, Bool, true, false, not, IsTrue}
use Rattle.tomo_base.specs.Network.{Network}
use Rattle.tomo_base.specs.Sets.{without, Avoids}
use Rattle.tomo_base.specs.BadParts.{NoBadPart, HasBadPart}
use Rattle.tomo_base.specs.Lowest.{IsAllowed, IsLowestAllowed}
use Rattle.ident_laws.specs.Laws.{HasOwnPocket, trial, IsRank}

-- all nodes of rank t and above are tried: the set is allowed, has every allowed node of lower rank, and its higher members have to stay if they are not forced
pub record IsTriedTo (g : Network) (rank : ℕ → ℕ) (forced barred : ℕ → Bool) (t : ℕ) (m : ℕ → Bool) : Type 0 where
  pub allowed : IsAllowed g (NoBadPart g) forced barred m
  pub below : (v : ℕ) → v < g.nodes → rank v < t → barred v ≡ false → IsTrue (m v)
  pub above : (x : ℕ) → x < g.nodes → t ≤ rank x → IsTrue (m x) → forced x ≡ false → HasBadPart g (trial rank barred m x)

-- u is the node of the highest rank below t
pub record IsNextBelow (g : Network) (rank : ℕ → ℕ) (t u : ℕ) : Type 0 where
  pub is_node : u < g.nodes
  pub lower : rank u < t
  pub highest : (v : ℕ) → v < g.nodes → rank v < t → rank v ≤ rank u

-- the walk begins with all nodes that are not barred
abbrev pub WalkBegins : Type 0
WalkBegins = (g : Network) (rank : ℕ → ℕ) (forced barred m : ℕ → Bool) (t : ℕ) → ((v : ℕ) → v < g.nodes → rank v < t) →
    ((v : ℕ) → v < g.nodes → m v ≡ not (barred v)) → NoBadPart g m → Avoids g forced barred → IsTriedTo g rank forced barred t m

-- a forced or a barred node is passed over
abbrev pub WalkPasses : Type 0
WalkPasses = (g : Network) (rank : ℕ → ℕ) (forced barred m : ℕ → Bool) (t u : ℕ) → IsRank g rank → IsNextBelow g rank t u → (forced u ≡ true) ⊎ (barred u ≡ true) →
    IsTriedTo g rank forced barred t m → IsTriedTo g rank forced barred (rank u) m

-- a node without a pocket of its own is left out
abbrev pub WalkLeavesOut : Type 0
WalkLeavesOut = (g : Network) (rank : ℕ → ℕ) (forced barred m rest : ℕ → Bool) (t u : ℕ) → IsRank g rank → IsNextBelow g rank t u → forced u ≡ false →
    ((v : ℕ) → v < g.nodes → rest v ≡ without m u v) → (HasOwnPocket g m u → ⊥) →
    IsTriedTo g rank forced barred t m → IsTriedTo g rank forced barred (rank u) rest

-- a node with a pocket of its own stays
abbrev pub WalkHolds : Type 0
WalkHolds = (g : Network) (rank : ℕ → ℕ) (forced barred m : ℕ → Bool) (t u : ℕ) → IsRank g rank → IsNextBelow g rank t u → HasOwnPocket g m u →
    IsTriedTo g rank forced barred t m → IsTriedTo g rank forced barred (rank u) m

-- where all nodes are tried, the set is the lowest
abbrev pub WalkEnds : Type 0
WalkEnds = (g : Network) (rank : ℕ → ℕ) (forced barred m : ℕ → Bool) (t : ℕ) → ((v : ℕ) → v < g.nodes → t ≤ rank v) →
    IsTriedTo g rank forced barred t m → IsLowestAllowed g (NoBadPart g) rank forced barred m

-- the walk over falling ranks: its beginning, its steps of three kinds, and its end at the lowest set
pub record LowestByWalk : Type 0 where
  pub begins : WalkBegins
  pub passes : WalkPasses
  pub leaves_out : WalkLeavesOut
  pub holds : WalkHolds
  pub ends : WalkEnds

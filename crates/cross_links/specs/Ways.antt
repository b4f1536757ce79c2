-- The flows from the ends of a link to monitors, and the ways that they give.
use Rattle.std.specs.Prelude.{ℕ, ◌≡◌, ◌≤◌, ◌<◌, Bool, false, List, [], ◌∷◌, length, All, IsTrue}
use Rattle.tomo_base.specs.Network.{Network, linked, IsGraph}
use Rattle.tomo_base.specs.Sets.{has, union, Apart}
use Rattle.tomo_base.specs.Walks.{NoneTwice}
use Rattle.tomo_base.specs.BadParts.{NoBadPart}
use Rattle.unit_flow.specs.Flows.{Task, LeadsFrom, first_of, later_of}

-- from x to the nodes of m, over any nodes
abbrev pub freely : Network → (ℕ → Bool) → ℕ → Task
freely g m x = record { graph = g; source = x; targets = m; banned = has [] }

-- from x to the nodes of m, and not over y
abbrev pub beside : Network → (ℕ → Bool) → ℕ → ℕ → Task
beside g m x y = record { graph = g; source = x; targets = m; banned = has (y ∷ []) }

-- the nodes of m, and those of two lists
abbrev pub with_lists : (ℕ → Bool) → List ℕ → List ℕ → ℕ → Bool
with_lists m b c = union (union m (has b)) (has c)

-- from x to the nodes of m and those of two lists, and not over y
abbrev pub onto : Network → (ℕ → Bool) → List ℕ → List ℕ → ℕ → ℕ → Task
onto g m b c x y = beside g (with_lists m b c) x y

-- a link from v, which is no monitor, to w, where the monitors leave no bad part
pub record IsPlainLink (g : Network) (m : List ℕ) (v w : ℕ) : Type 0 where
  pub graph : IsGraph g
  pub linked : IsTrue (linked g v w)
  pub plain : has m v ≡ false
  pub none : NoBadPart g (has m)
  pub nodes : All (λ u. u < g.nodes) m

-- a way of a task over different nodes, by its nodes after the source
pub record IsWay (t : Task) (a : List ℕ) : Type 0 where
  pub leads : LeadsFrom t t.source a
  pub once : NoneTwice (t.source ∷ a)

-- three ways that share only the source, of which the first goes on with w
pub record ThreeWays (t : Task) (w : ℕ) (a b c : List ℕ) : Type 0 where
  pub way_a : IsWay t (w ∷ a)
  pub way_b : IsWay t b
  pub way_c : IsWay t c
  pub a_b : Apart (has (w ∷ a)) (has b)
  pub a_c : Apart (has (w ∷ a)) (has c)
  pub b_c : Apart (has b) (has c)

-- the first of three ways from v to nodes of m, without v: it begins with a neighbour of v that is not in m
pub record KeepsWay (g : Network) (m : ℕ → Bool) (v : ℕ) (kept b c : List ℕ) : Type 0 where
  pub some : 1 ≤ length kept
  pub ways : ThreeWays (freely g m v) (first_of kept) (later_of kept) b c
  pub linked : IsTrue (linked g v (first_of kept))
  pub plain : m (first_of kept) ≡ false

-- What the fields of a flow keep.
use Rattle.std.specs.Prelude.{ℕ, ◌≡◌, ◌≤◌, List, length, map, take, slice_index_or, Vec}
use Rattle.std.specs.Global.{Global}
use Rattle.tomo_base.specs.Network.{Network}
use Rattle.tomo_base.specs.Search.{mark_of}
use Rattle.tomo_base.specs.Sets.{has}
use Rattle.unit_flow.specs.declared.ask.Ask.{Ask}
use Rattle.unit_flow.specs.Flows.{IsFlow}
use Rattle.unit_flow.specs.Search.{asked, IsAsked}

-- a first list of n numbers: room for a path
pub record HasPathRoom (n : ℕ) (paths : List (Vec ℕ Global)) : Type 0 where
  pub some : 1 ≤ length paths
  pub long : (d : Vec ℕ Global) → length (slice_index_or paths 0 d).items ≡ n

-- the marks are those of the sets; the first count lists are a flow, and where there are none there is room for a path
pub record KeepsFlow (g : Network) (a : Ask) (targets banned : List ℕ) (count : ℕ) (paths : List (Vec ℕ Global)) : Type 0 where
  pub is_asked : IsAsked g a
  pub marks_targets : (v : ℕ) → mark_of a.targets.items v ≡ has targets v
  pub marks_banned : (v : ℕ) → mark_of a.banned.items v ≡ has banned v
  pub within : count ≤ length paths
  pub flow : IsFlow (asked g a) (map (λ p. p.items) (take count paths))
  pub room : count ≡ 0 → HasPathRoom g.nodes paths

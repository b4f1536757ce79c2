-- The laws of the placement rule. Each is the lone clause of a public function with an empty body.
use Rattle.std.specs.Prelude.{ℕ, ◌≡◌, ◌<◌, ◌≤◌, ◌↔◌, ◌⊎◌, Bool}
use Rattle.tomo_base.specs.Network.{Network, IsGraph}
use Rattle.tomo_base.specs.Sets.{Within, Apart}
use Rattle.tomo_base.specs.Walks.{IsConnected}
use Rattle.tomo_base.specs.Identify.{Identifies}
use Rattle.tomo_base.specs.Lowest.{IsLowest}
use Rattle.mmp_place.specs.Rule.{PassesRule, IsPlacedByRule, IsRuleSet, free_nodes}

-- monitors identify every link exactly where they pass the tests of the rule
abbrev pub RuleTells : Type 0
RuleTells = (g : Network) (m : ℕ → Bool) → IsGraph g → IsConnected g → 3 ≤ g.nodes → (Identifies g m ↔ PassesRule g m)

-- what the rule places is the lowest set
abbrev pub PlacedIsLowest : Type 0
PlacedIsLowest = (g : Network) (m : ℕ → Bool) → IsGraph g → IsConnected g → 3 ≤ g.nodes → IsPlacedByRule g m → IsLowest g m

-- so the order in which sets of one kind are filled is without effect
abbrev pub PlacedIsOne : Type 0
PlacedIsOne = (g : Network) (m w : ℕ → Bool) → IsGraph g → IsConnected g → 3 ≤ g.nodes → IsPlacedByRule g m → IsPlacedByRule g w →
    (v : ℕ) → v < g.nodes → m v ≡ w v

-- the free nodes of two sets that the rule fills are nested or disjoint
abbrev pub FreeNodesAreNested : Type 0
FreeNodesAreNested = (g : Network) (x y : ℕ → Bool) → IsGraph g → IsRuleSet g x → IsRuleSet g y →
    (Within (free_nodes g x) (free_nodes g y) ⊎ Within (free_nodes g y) (free_nodes g x)) ⊎ Apart (free_nodes g x) (free_nodes g y)

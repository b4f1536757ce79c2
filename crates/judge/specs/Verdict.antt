-- What a set of monitors comes to.
use Rattle.std.specs.Prelude.{ℕ, ◌<◌, Bool, List, All}
use Rattle.std.specs.List.Sorted.{IsStrictlyIncreasing}
use Rattle.tomo_base.specs.Network.{Network}
use Rattle.tomo_base.specs.Sets.{has}
use Rattle.tomo_base.specs.Identify.{Identifies}
use Rattle.tomo_base.specs.BadParts.{IsBadSet}
use Rattle.tomo_base.specs.Cuts.{extended, IsThreeConnected}
use Rattle.judge.specs.declared.monitors.Verdict.{Verdict}
use Rattle.judge.specs.declared.monitors.Verdict.TheVariants.{Yes, Bad}

-- the list is the bad set, ascending, and the monitors do not identify every link
pub record IsFoundBad (g : Network) (m : ℕ → Bool) (nodes : List ℕ) : Type 0 where
  pub unidentified : Identifies g m → ⊥
  pub bad_set : IsBadSet g m (has nodes)
  pub below : All (λ v. v < g.nodes) nodes
  pub ascending : IsStrictlyIncreasing nodes

-- either they identify every link, or the bad set tells that they do not
abbrev pub IsVerdict : Network → (ℕ → Bool) → Verdict → Type 0
IsVerdict g m Yes = Identifies g m
IsVerdict g m (Bad nodes) = IsFoundBad g m nodes

-- either the extended graph is three-connected, or it is not
abbrev pub TellsExtended : Network → List ℕ → Verdict → Type 0
TellsExtended g m Yes = IsThreeConnected (extended g m)
TellsExtended g m (Bad nodes) = IsThreeConnected (extended g m) → ⊥

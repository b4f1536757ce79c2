-- What is answered of monitors.
use Rattle.std.specs.Prelude.{ℕ, ◌≡◌, ◌⊎◌, ◌∷◌, [], List, map, length, codes, decimal, slice_index_or}
use Rattle.tomo_base.specs.Sets.{has}
use Rattle.tomo_base.specs.Identify.{Identifies}
use Rattle.rows.specs.Rows.{Row}
use Rattle.topology.specs.Topology.{Topo}
use Rattle.judge.specs.Verdict.{IsFoundBad}
use Rattle.answers.specs.declared.status.Status.{Status}
use Rattle.answers.specs.declared.status.Status.TheVariants.{Done, Negative}

-- monitors that identify, by their number
abbrev pub yes_row : ℕ → Row
yes_row count = codes "yes" ∷ decimal count ∷ []

-- nodes by their names
abbrev pub bad_row : List (List ℕ) → List ℕ → Row
bad_row names nodes = codes "bad" ∷ map (λ v. slice_index_or names v []) nodes

-- the monitors do not identify every link: the bad set is named
abbrev pub TellsBad : Topo → List ℕ → Status → List Row → Type 0
TellsBad t monitors status rows = (status ≡ Negative) × (nodes : List ℕ) × IsFoundBad t.graph (has monitors) nodes × (rows ≡ bad_row t.names nodes ∷ [])

-- whether the monitors identify every link
abbrev pub Judges : Topo → List ℕ → Status → List Row → Type 0
Judges t monitors status rows = ((status ≡ Done) × Identifies t.graph (has monitors) × (rows ≡ yes_row (length monitors) ∷ [])) ⊎ TellsBad t monitors status rows

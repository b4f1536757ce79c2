-- A whole run over a drawn network: its plan, the sums along the paths, and the delays that follow from them.
use Rattle.std.specs.Prelude.{ℕ, ◌≡◌, List, [], ◌∷◌, map, length, sum, codes, decimal}
use Rattle.tomo_base.specs.Network.{Network}
use Rattle.tomo_base.specs.Identify.{sum_along}
use Rattle.rows.specs.Rows.{Row, RowList}
use Rattle.topology.specs.Numbered.{decimals}
use Rattle.plan_form.specs.Parts.{PlanParts}
use Rattle.planner.specs.Planned.{IsPlanned}
use Rattle.drill.specs.Generated.{generated, generated_delays}

-- a row with a word and numbers in decimal
abbrev pub number_row : List ℕ → List ℕ → Row
number_row word numbers = word ∷ map decimal numbers

-- the sums of delays along paths
abbrev pub sums_along : Network → List ℕ → List (List ℕ) → List ℕ
sums_along g delays paths = map (sum_along g delays) paths

-- the five rows, of the numbers that they tell
abbrev pub drill_rows : (seed n l monitors bound paths along total : ℕ) → List Row
drill_rows seed n l monitors bound paths along total =
    number_row (codes "drill") (seed ∷ n ∷ l ∷ [])
    ∷ number_row (codes "monitors") (monitors ∷ [])
    ∷ number_row (codes "bound") (bound ∷ [])
    ∷ number_row (codes "paths") (paths ∷ along ∷ [])
    ∷ number_row (codes "total") (total ∷ [])
    ∷ []

-- the rows of a plan as promised for the drawn network, whose nodes have their numbers for names: the number of its monitors, which is the bound too; its paths, and what the
-- drawn delays add up to along all of them; and what these delays add up to. Nothing here checks a plan or solves its sums
pub record IsDrill (seed n l : ℕ) (rows : RowList) : Type 0 where
  pub plan : PlanParts
  pub planned : IsPlanned (decimals n) (generated seed n l) plan
  pub closed : rows.closed ≡ drill_rows seed n l (length plan.monitors) (length plan.monitors) (length plan.paths)
      (sum (sums_along (generated seed n l) (generated_delays seed l) plan.paths)) (sum (generated_delays seed l))
  pub current : rows.current ≡ []

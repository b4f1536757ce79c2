-- The rows of three independent trees for the lowest set of monitors.
use Rattle.std.specs.Prelude.{ℕ, ◌≡◌, ◌∷◌, ◌++◌, [], List, codes, decimal, if◌then◌else◌}
use Rattle.tomo_base.specs.Sets.{has}
use Rattle.tomo_base.specs.Lowest.{IsLowest}
use Rattle.rows.specs.Rows.{Row}
use Rattle.topology.specs.Topology.{Topo}
use Rattle.plan_form.specs.PlanRows.{end_row, numbered}
use Rattle.indep_trees.specs.Trees.{Trees, AreTrees, parent_in, rank_in}
use Rattle.answers.specs.declared.status.Status.{Status}
use Rattle.answers.specs.declared.status.Status.TheVariants.{Done}

-- a monitor and its number
abbrev pub root_row : Trees → ℕ → Row
root_row t v = codes "monitor" ∷ decimal v ∷ decimal (rank_in t v) ∷ []

-- another node, its number, and its parent in each of the three trees
abbrev pub tree_row : Trees → ℕ → Row
tree_row t v = codes "tree" ∷ decimal v ∷ decimal (rank_in t v) ∷ decimal (parent_in t 0 v) ∷ decimal (parent_in t 1 v) ∷ decimal (parent_in t 2 v) ∷ []

-- the row of a node, whatever its name is
abbrev pub grown_row : Trees → ℕ → List ℕ → Row
grown_row t v name = if has t.monitors v then root_row t v else tree_row t v

-- independent trees of the network for its lowest set: the row of each node, and a last row
abbrev pub TellsTrees : Topo → Status → List Row → Type 0
TellsTrees t status rows =
    (status ≡ Done) × (p : Trees) × (p.graph ≡ t.graph) × IsLowest t.graph (has p.monitors) × AreTrees p × (rows ≡ numbered (grown_row p) 0 t.names ++ end_row ∷ [])

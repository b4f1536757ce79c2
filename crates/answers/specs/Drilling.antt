-- What is answered where a drill is asked for.
use Rattle.std.specs.Prelude.{◌≡◌, ◌+◌, ◌^◌, ◌&&◌, List, Bool, nat_lt, nat_le}
use Rattle.rows.specs.Rows.{Row}
use Rattle.drill.specs.Drill.{IsDrill}
use Rattle.drill.specs.Generated.{pair_count}
use Rattle.answers.specs.Refusals.{only}
use Rattle.answers.specs.declared.drilling.DrillNumbers.{DrillNumbers}
use Rattle.answers.specs.declared.status.Status.{Status}
use Rattle.answers.specs.declared.status.Status.TheVariants.{Done}
use Rattle.drill.specs.Limits.{drawn_link_limit, drawn_node_limit}

-- a network can be drawn by them
abbrev pub fit : DrillNumbers → Bool
fit x =
    ((((nat_lt x.seed (2 ^ 31) && nat_le 3 x.nodes) && nat_le x.nodes drawn_node_limit) && nat_le x.links drawn_link_limit) && nat_le x.nodes (x.links + 1)) && nat_le x.links (pair_count x.nodes)

-- the rows of a drill
abbrev pub Drills : DrillNumbers → Status → List Row → Type 0
Drills x status rows = (status ≡ Done) × IsDrill x.seed x.nodes x.links (only rows)

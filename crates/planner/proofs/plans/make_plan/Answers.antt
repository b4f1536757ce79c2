use Rattle.std.proofs.Common.{◌^◌, ◌<◌, IfOk}
use Rattle.plan_form.specs.PlanRows.{row_count}
use Rattle.planner.specs.Planned.{IsPlanned}
use Rattle.planner.proofs.Buildable.{measured_buildable}
use Rattle.planner.proofs.Whole.{all_planned}
use Rattle.planner.proofs.plans.make_plan.Goals as goal

pub build-requires-clause-parts : goal.build-requires-clause-parts
build-requires-clause-parts c = measured_buildable _ _ _ _ c.in_ok-made.ensures.measures

-- what is built is what is promised
promised : (c : goal.After-drop-monitors-inside-2) → IfOk c.build.result (IsPlanned c.args.t.now.names c.args.t.now.graph) × IfOk c.build.result (λ p. row_count p < 2 ^ 32)
promised c =
    let placed = rw c.graph.ensures.graph at c.in_ok-monitors.ensures in
    let held = rw c.graph-2.ensures.graph at c.in_ok-pockets.ensures in
    all_planned c.args.t.now c.in_ok-monitors.monitors c.in_ok-pockets.pockets c.graph.ensures.topology placed.nodes placed.ascending placed.lowest placed.placed held.homes held.shows held.needs
    c.in_ok-made.made.pool c.in_ok-made.made.recipes c.in_ok-made.ensures.measures c.build.result c.build.ensures

pub returns-clause-planned : goal.returns-clause-planned
returns-clause-planned c = (promised c).0

pub returns-clause-rows : goal.returns-clause-rows
returns-clause-rows c = (promised c).1

use Rattle.std.proofs.Common.{◌^◌, ◌<◌, IfOk}
use Rattle.plan_form.specs.PlanRows.{row_count}
use Rattle.planner.specs.Planned.{IsPlanFor}
use Rattle.planner.proofs.Buildable.{measured_buildable}
use Rattle.planner.proofs.Whole.{all_planned_for}
use Rattle.planner.proofs.plans.plan_for.Goals as goal

pub build-requires-clause-parts : goal.build-requires-clause-parts
build-requires-clause-parts c = measured_buildable _ _ _ _ c.in_ok-made.ensures.measures

-- what is built is what is promised
promised : (c : goal.After-drop-made-3) → IfOk c.build.result (IsPlanFor c.args.t.now.names c.args.t.now.graph c.args.m.now) × IfOk c.build.result (λ p. row_count p < 2 ^ 32)
promised c =
    all_planned_for c.args.t.now c.args.m.now c.in_ok-made.made.pool c.in_ok-made.made.recipes c.build.result c.in_ok-made.ensures.topology c.requires.nodes c.as_slice-ascending.ensures.ascending
    c.in_ok-made.ensures.measures (rw c.new-pockets.ensures at c.build.ensures)

pub returns-clause-planned : goal.returns-clause-planned
returns-clause-planned c = (promised c).0

pub returns-clause-rows : goal.returns-clause-rows
returns-clause-rows c = (promised c).1

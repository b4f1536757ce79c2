use Rattle.std.proofs.Common.{◌^◌, ◌<◌, IfOk, arith}
use Rattle.tomo_base.specs.Sets.{has, without}
use Rattle.ident_laws.proofs.BadParts.{no_bad_part}
use Rattle.ident_laws.proofs.Chosen.{lowest_identifies, lowest_is_kept}
use Rattle.cross_links.proofs.Identifying.{no_bad_part_identifies}
use Rattle.plan_form.specs.PlanRows.{row_count}
use Rattle.planner.specs.Planned.{IsPlannedWith}
use Rattle.planner.proofs.Buildable.{measured_buildable}
use Rattle.planner.proofs.Whole.{all_planned_with}
use Rattle.planner.proofs.plans.chosen_plan.Goals as goal

pub pockets_with-requires-clause-kept : goal.pockets_with-requires-clause-kept
pockets_with-requires-clause-kept c = rw c.graph-2.ensures.graph (λ x l k other.
    let g = c.args.t.now.graph in
    let topo = c.graph-2.ensures.topology in
    let m = has c.in_ok-monitors.monitors in
    let placed = rw c.graph.ensures.graph at c.in_ok-monitors.ensures in
    let low = (lowest_identifies g (λ v. v) (has c.args.choice.now.must) (has c.args.choice.now.not) m topo.graph topo.connected (omega (arith, topo.some_nodes)) (no_bad_part_identifies g topo.graph)).1 placed.lowest in
    (lowest_is_kept g (λ v. v) (has c.args.choice.now.must) (has c.args.choice.now.not) m low x l k).1
    (no_bad_part g (without m x) topo.graph topo.connected (omega (arith, topo.some_nodes)) other))

pub build_with-requires-clause-parts : goal.build_with-requires-clause-parts
build_with-requires-clause-parts c = measured_buildable _ _ _ _ c.in_ok-made.ensures.measures

-- what is built is what is promised
promised : (c : goal.After-drop-monitors-inside-2) → IfOk c.build_with.result (IsPlannedWith c.args.t.now.names c.args.t.now.graph c.args.choice.now) × IfOk c.build_with.result (λ p. row_count p < 2 ^ 32)
promised c =
    let placed = rw c.graph.ensures.graph at c.in_ok-monitors.ensures in
    let held = rw c.graph-2.ensures.graph at c.in_ok-pockets.ensures in
    all_planned_with c.args.t.now c.args.choice.now c.in_ok-monitors.monitors c.in_ok-pockets.pockets c.graph.ensures.topology placed.nodes placed.ascending
    c.requires.must_nodes c.as_slice-must.ensures.ascending c.requires.not_nodes c.as_slice-not.ensures.ascending c.requires.apart placed.lowest held.homes held.free held.shows held.needs
    c.in_ok-made.made.pool c.in_ok-made.made.recipes c.in_ok-made.ensures.measures c.build_with.result c.build_with.ensures

pub returns-clause-planned : goal.returns-clause-planned
returns-clause-planned c = (promised c).0

pub returns-clause-rows : goal.returns-clause-rows
returns-clause-rows c = (promised c).1

use Rattle.std.proofs.Common.{◌≡◌, ◌<◌, false, length, arith, ap}
use Rattle.std.proofs.lemmas.Bool.{both_ways}
use Rattle.tomo_base.specs.Sets.{has}
use Rattle.tomo_base.specs.Search.{mark_of}
use Rattle.tomo_base.specs.BadParts.{NoBadPart}
use Rattle.tomo_base.proofs.Ascending.{All-has}
use Rattle.cross_links.proofs.Identifying.{no_bad_part_identifies}
use Rattle.extended_graph.proofs.Telling.{three_connected_by_monitors}
use Rattle.judge.proofs.Clear.{clear_seen, wide_seen, all_clear, found_bad, found_parts}
use Rattle.judge.proofs.monitors.judge.Goals as goal
use Rattle.judge.proofs.monitors.judge.Goals.{In_default, In-Some}

-- where all nodes are seen there is no bad part
none_bad : (c : In_default) → NoBadPart c.args.g.now (has c.args.m.now)
none_bad c =
    let g = c.args.g.now in
    let marks = c.in_ok-marks.marks.items in
    let all = rw c.deref.ensures.value at c.in_default.ensures.none in
    all_clear g (has c.args.m.now) (clear_seen g (has c.args.m.now) marks g.nodes c.nodes-count.ensures.graph (All-has (λ v. v < g.nodes) c.args.m.now c.requires.nodes) c.in_ok-marks.ensures
    (λ k l. all k (omega (arith, l, c.in_ok-marks.ensures.one_each))))

-- the node is one of the graph
node_below : (c : In-Some) → c.in-Some.v < c.args.g.now.nodes
node_below c = omega (arith, c.in-Some.ensures.below, ap length c.deref.ensures.value, c.in_ok-marks.ensures.one_each)

pub returns-in_default-clause-verdict : goal.returns-in_default-clause-verdict
returns-in_default-clause-verdict c = no_bad_part_identifies c.args.g.now c.nodes-count.ensures.graph (has c.args.m.now) (none_bad (goal.at.returns-in_default-clause-verdict c).In_default)

pub returns-in_default-clause-extended : goal.returns-in_default-clause-extended
returns-in_default-clause-extended c =
    (three_connected_by_monitors c.args.g.now c.args.m.now c.nodes-count.ensures.graph c.requires.connected c.requires.three c.requires.nodes).1 (none_bad (goal.at.returns-in_default-clause-extended c).In_default)

pub unreachable-requires : goal.unreachable-requires
unreachable-requires c =
    let g = c.args.g.now in
    let v = c.in-Some.v in
    let node = node_below (goal.at.unreachable-requires c).In-Some in
    let three = rw c.in_default-2.is at c.in_ok-cut.ensures in
    let out : mark_of c.in_ok-marks.marks.items v ≡ false = rw c.deref.ensures.value at c.in-Some.ensures.unmarked in
    both_ways (mark_of c.in_ok-marks.marks.items v) out ((c.in_ok-marks.ensures.marked v node).1 (wide_seen g (has c.args.m.now) v c.nodes-count.ensures.graph node three.3))

pub returns-clause-verdict : goal.returns-clause-verdict
returns-clause-verdict c =
    let g = c.args.g.now in
    let cut = rw c.in-Few.is at c.in_ok-cut.ensures in
    let clear = clear_seen g (has c.args.m.now) c.in_ok-marks.marks.items c.in-Some.v c.nodes-count.ensures.graph (All-has (λ v. v < g.nodes) c.args.m.now c.requires.nodes) c.in_ok-marks.ensures
    (rw c.deref.ensures.value at c.in-Some.ensures.first) in
    found_bad _ _ _ cut.0 _ c.nodes-count.ensures.graph c.requires.connected c.requires.three (node_below (goal.at.returns-clause-verdict c).In-Some) clear cut.1 cut.2 cut.3 c.as_slice-ascending.ensures.ascending

pub returns-clause-extended : goal.returns-clause-extended
returns-clause-extended c = found_parts c.args.g.now c.args.m.now _ c.nodes-count.ensures.graph c.requires.connected c.requires.three c.requires.nodes (returns-clause-verdict c)

use Rattle.std.proofs.Common.{◌≡◌, ◌<◌, ◌∷◌, [], true, All, map, sym, ap, subst, ◌∙◌}
use Rattle.std.proofs.lemmas.Result.{IfOk-weaker}
use Rattle.tomo_base.specs.Sets.{has}
use Rattle.tomo_base.proofs.Ascending.{All-has}
use Rattle.unit_flow.specs.Flows.{IsFlow, first_of, last_of, routing_task}
use Rattle.cross_links.specs.Ways.{onto}
use Rattle.tomo_base.proofs.Members.{has_first}
use Rattle.cross_links.proofs.Tasks.{Grown, grown_kept, grown_more, order_many, order_has}
use Rattle.cross_links.proofs.Second.{way_below, ends_below, ends_differ, targets_below, second_task, second_no_target, second_path, second_grows}
use Rattle.cross_links.proofs.flows.second_ways.Goals as goal

pub ends_on-requires-clause-first : goal.ends_on-requires-clause-first
ends_on-requires-clause-first c =
    subst (λ n. All (λ z. z < n) c.args.b.now) (sym c.nodes.ensures.nodes)
    (way_below c.args.g.now (has c.args.m.now) c.args.v c.args.kept.now c.args.b.now c.args.c.now c.requires.graph c.requires.kept c.args.b.now c.requires.kept.ways.way_b)

pub ends_on-requires-clause-second : goal.ends_on-requires-clause-second
ends_on-requires-clause-second c =
    subst (λ n. All (λ z. z < n) c.args.c.now) (sym c.nodes.ensures.nodes)
    (way_below c.args.g.now (has c.args.m.now) c.args.v c.args.kept.now c.args.b.now c.args.c.now c.requires.graph c.requires.kept c.args.c.now c.requires.kept.ways.way_c)

pub flow_beside-requires-clause-source : goal.flow_beside-requires-clause-source
flow_beside-requires-clause-source c =
    (ends_below c.args.g.now (has c.args.m.now) c.args.v c.args.kept.now c.args.b.now c.args.c.now c.requires.graph c.requires.kept).1

pub flow_beside-requires-clause-avoided : goal.flow_beside-requires-clause-avoided
flow_beside-requires-clause-avoided c =
    (ends_below c.args.g.now (has c.args.m.now) c.args.v c.args.kept.now c.args.b.now c.args.c.now c.requires.graph c.requires.kept).0

pub flow_beside-requires-clause-targets : goal.flow_beside-requires-clause-targets
flow_beside-requires-clause-targets c =
    targets_below c.args.g.now (has c.args.m.now) c.args.v c.args.kept.now c.args.b.now c.args.c.now c.requires.graph c.requires.kept
    c.in_ok-targets.targets c.in_ok-targets.ensures.ends (All-has (λ z. z < c.args.g.now.nodes) c.args.m.now c.requires.nodes)

pub flow_beside-requires-clause-no_target : goal.flow_beside-requires-clause-no_target
flow_beside-requires-clause-no_target c =
    second_no_target c.args.g.now (has c.args.m.now) c.args.v c.args.kept.now c.args.b.now c.args.c.now c.requires.graph c.requires.kept
    c.in_ok-targets.targets c.in_ok-targets.ensures.ends

pub flow_beside-requires-clause-differ : goal.flow_beside-requires-clause-differ
flow_beside-requires-clause-differ c =
    ends_differ c.args.g.now (has c.args.m.now) c.args.v c.args.kept.now c.args.b.now c.args.c.now c.requires.graph c.requires.kept

-- the task of the flow
task : (c : goal.After-flow-2-1) → routing_task c.in_ok-flow.flow ≡ onto c.args.g.now (has c.args.m.now) c.args.b.now c.args.c.now (first_of c.args.kept.now) c.args.v
task c = c.in_ok-flow.ensures.task ∙ second_task c.args.g.now (has c.args.m.now) c.args.v c.args.kept.now c.args.b.now c.args.c.now c.requires.graph c.requires.kept
    c.in_ok-targets.targets c.in_ok-targets.ensures.ends

pub keep-requires-clause-path : goal.keep-requires-clause-path
keep-requires-clause-path c =
    subst (λ t. IsFlow t (c.args.kept.now ∷ [])) (sym (task c))
    (second_path c.args.g.now (has c.args.m.now) c.args.v c.args.kept.now c.args.b.now c.args.c.now c.requires.graph c.requires.kept)

pub grow-requires-clause-grows : goal.grow-requires-clause-grows
grow-requires-clause-grows c =
    let g = c.args.g.now in
    let m = has c.args.m.now in
    let same = c.in_ok-flow.ensures.task ∙ second_task g m c.args.v c.args.kept.now c.args.b.now c.args.c.now c.requires.graph c.requires.kept c.in_ok-targets.targets c.in_ok-targets.ensures.ends in
    second_grows g m c.args.v c.args.kept.now c.args.b.now c.args.c.now c.requires.graph c.requires.kept c.requires.none c.keep.new.self
    (grown_kept (onto g m c.args.b.now c.args.c.now (first_of c.args.kept.now) c.args.v) c.in_ok-flow.flow c.keep.new.self c.args.kept.now same c.keep.ensures)

-- the flow has the way that is kept, and one more
two : (c : goal.After-drop-targets-inside-2) → Grown (onto c.args.g.now (has c.args.m.now) c.args.b.now c.args.c.now (first_of c.args.kept.now) c.args.v) 2 c.grow.new.flow
two c =
    let g = c.args.g.now in
    let m = has c.args.m.now in
    let t = onto g m c.args.b.now c.args.c.now (first_of c.args.kept.now) c.args.v in
    let same = c.in_ok-flow.ensures.task ∙ second_task g m c.args.v c.args.kept.now c.args.b.now c.args.c.now c.requires.graph c.requires.kept c.in_ok-targets.targets c.in_ok-targets.ensures.ends in
    let one = grown_kept t c.in_ok-flow.flow c.keep.new.self c.args.kept.now same c.keep.ensures in
    grown_more t 1 c.keep.new.self c.grow.new.flow one c.in_ok-grow.ensures

pub returns-clause-flow : goal.returns-clause-flow
returns-clause-flow c = IfOk-weaker c.paths.result _ _ (λ p flow. subst (λ t. IsFlow t p) (two c).task flow) c.paths.ensures.flow

pub returns-clause-two : goal.returns-clause-two
returns-clause-two c = IfOk-weaker c.paths.result _ _ (λ p o. order_many c.grow.new.flow.paths p o ∙ (two c).many) c.paths.ensures.order

pub returns-clause-end : goal.returns-clause-end
returns-clause-end c =
    let end = last_of c.args.kept.now in
    let kept : c.keep.new.self.paths ≡ c.args.kept.now ∷ [] = ap (λ f. f.paths) c.keep.ensures in
    let first : has (map last_of c.keep.new.self.paths) end ≡ true = ap (λ ps. has (map last_of ps) end) kept ∙ has_first end [] in
    IfOk-weaker c.paths.result _ _ (λ p o. order_has last_of c.grow.new.flow.paths p end o (c.in_ok-grow.ensures.wider.ends end first)) c.paths.ensures.order

use Rattle.std.proofs.Common.{◌∙◌, arith}
use Rattle.std.proofs.lemmas.Result.{IfOk-weaker}
use Rattle.tomo_base.specs.Sets.{has}
use Rattle.tomo_base.proofs.Links.{linked_below}
use Rattle.cross_links.specs.Ways.{beside}
use Rattle.cross_links.proofs.Tasks.{differ, beside_ok, beside_grows, grown_none, grown_more, order_many}
use Rattle.cross_links.proofs.flows.two_ways.Goals as goal

pub flow_beside-requires-clause-source : goal.flow_beside-requires-clause-source
flow_beside-requires-clause-source c = (linked_below c.args.g.now.nodes c.args.g.now.links c.args.v c.args.w c.requires.link.graph c.requires.link.linked).0

pub flow_beside-requires-clause-avoided : goal.flow_beside-requires-clause-avoided
flow_beside-requires-clause-avoided c = (linked_below c.args.g.now.nodes c.args.g.now.links c.args.v c.args.w c.requires.link.graph c.requires.link.linked).1

pub flow_beside-requires-clause-differ : goal.flow_beside-requires-clause-differ
flow_beside-requires-clause-differ c = differ c.args.g.now c.requires.link.graph c.args.v c.args.w c.requires.link.linked

pub grow-requires-clause-grows : goal.grow-requires-clause-grows
grow-requires-clause-grows c =
    let g = c.args.g.now in
    let m = has c.args.m.now in
    let t = beside g m c.args.v c.args.w in
    let below = linked_below g.nodes g.links c.args.v c.args.w c.requires.link.graph c.requires.link.linked in
    beside_grows g m c.requires.link.none m c.args.v c.args.w 0 c.in_ok-flow.flow (beside_ok g m c.requires.link.graph c.args.v c.args.w c.requires.link.linked c.requires.link.plain) below.1 (λ z l h. h) (omega arith)
    (grown_none t c.in_ok-flow.flow c.in_ok-flow.ensures)

pub grow-requires-2-clause-grows : goal.grow-requires-2-clause-grows
grow-requires-2-clause-grows c =
    let g = c.args.g.now in
    let m = has c.args.m.now in
    let t = beside g m c.args.v c.args.w in
    let below = linked_below g.nodes g.links c.args.v c.args.w c.requires.link.graph c.requires.link.linked in
    beside_grows g m c.requires.link.none m c.args.v c.args.w 1 c.grow.new.flow (beside_ok g m c.requires.link.graph c.args.v c.args.w c.requires.link.linked c.requires.link.plain) below.1 (λ z l h. h) (omega arith)
    (grown_more t 0 c.in_ok-flow.flow c.grow.new.flow (grown_none t c.in_ok-flow.flow c.in_ok-flow.ensures) c.in_ok-grow.ensures)

pub returns-clause-two : goal.returns-clause-two
returns-clause-two c =
    let t = beside c.args.g.now (has c.args.m.now) c.args.v c.args.w in
    let one = grown_more t 0 c.in_ok-flow.flow c.grow.new.flow (grown_none t c.in_ok-flow.flow c.in_ok-flow.ensures) c.in_ok-grow.ensures in
    let two = grown_more t 1 c.grow.new.flow c.grow-2.new.flow one c.in_ok-grow-2.ensures in
    IfOk-weaker c.paths.result _ _ (λ p o. order_many c.grow-2.new.flow.paths p o ∙ two.many) c.paths.ensures.order

use Rattle.std.proofs.Common.{◌≡◌, ◌++◌, ◌∷◌, [], get_or, sym, ap, ap₂, subst, ◌∙◌, arith}
use Rattle.tomo_base.specs.Sets.{has}
use Rattle.tomo_base.proofs.Links.{linked_below, linked_comm}
use Rattle.unit_flow.specs.Flows.{IsFlow, second_of}
use Rattle.cross_links.specs.Ways.{beside, freely}
use Rattle.cross_links.proofs.Tasks.{differ, beside_ok, beside_grows, grown_none, grown_more, order_many}
use Rattle.cross_links.proofs.Cases.{first_way}
use Rattle.cross_links.proofs.flows.way_over.Goals as goal

pub flow_beside-requires-clause-source : goal.flow_beside-requires-clause-source
flow_beside-requires-clause-source c = (linked_below c.args.g.now.nodes c.args.g.now.links c.args.v c.args.w c.requires.link.graph c.requires.link.linked).1

pub flow_beside-requires-clause-avoided : goal.flow_beside-requires-clause-avoided
flow_beside-requires-clause-avoided c = (linked_below c.args.g.now.nodes c.args.g.now.links c.args.v c.args.w c.requires.link.graph c.requires.link.linked).0

pub flow_beside-requires-clause-differ : goal.flow_beside-requires-clause-differ
flow_beside-requires-clause-differ c = λ e. differ c.args.g.now c.requires.link.graph c.args.v c.args.w c.requires.link.linked (sym e)

pub grow-requires-clause-grows : goal.grow-requires-clause-grows
grow-requires-clause-grows c =
    let g = c.args.g.now in
    let m = has c.args.m.now in
    let below = linked_below g.nodes g.links c.args.v c.args.w c.requires.link.graph c.requires.link.linked in
    beside_grows g m c.requires.link.none m c.args.w c.args.v 0 c.in_ok-flow.flow
    (beside_ok g m c.requires.link.graph c.args.w c.args.v (linked_comm g c.args.v c.args.w c.requires.link.linked) c.requires.plain_neighbour) below.0 (λ z l h. h) (omega arith)
    (grown_none (beside g m c.args.w c.args.v) c.in_ok-flow.flow c.in_ok-flow.ensures)

pub path-requires : goal.path-requires
path-requires c =
    let t = beside c.args.g.now (has c.args.m.now) c.args.w c.args.v in
    let one = grown_more t 0 c.in_ok-flow.flow c.grow.new.flow (grown_none t c.in_ok-flow.flow c.in_ok-flow.ensures) c.in_ok-grow.ensures in
    omega (arith, order_many c.grow.new.flow.paths c.in_ok-ways.ways c.in_ok-ways.ensures.order, one.many)

-- what the path is
read : (c : goal.After-drop-flow-inside-7) → c.extend_from_slice.new.self.items ≡ c.args.v ∷ get_or c.in_ok-ways.ways 0 []
read c =
    let copied : c.in_ok-path.path.items ≡ c.args.v ∷ [] = c.in_ok-path.ensures.items_if_clones_equal (λ x y h. h) in
    c.in_ok-extend_from_slice.ensures.items ∙ ap₂ (λ a b. a ++ b) copied c.path.ensures

-- and what it is worth
made : (c : goal.After-drop-flow-inside-7) → IsFlow (freely c.args.g.now (has c.args.m.now) c.args.v) ((c.args.v ∷ get_or c.in_ok-ways.ways 0 []) ∷ []) × (second_of (c.args.v ∷ get_or c.in_ok-ways.ways 0 []) ≡ c.args.w)
made c =
    let g = c.args.g.now in
    let m = has c.args.m.now in
    let t = beside g m c.args.w c.args.v in
    let one = grown_more t 0 c.in_ok-flow.flow c.grow.new.flow (grown_none t c.in_ok-flow.flow c.in_ok-flow.ensures) c.in_ok-grow.ensures in
    first_way g m c.args.v c.args.w c.in_ok-ways.ways c.requires.link.linked c.requires.link.plain (differ g c.requires.link.graph c.args.v c.args.w c.requires.link.linked)
    (subst (λ t. IsFlow t c.in_ok-ways.ways) one.task c.in_ok-ways.ensures.flow) (omega (arith, order_many c.grow.new.flow.paths c.in_ok-ways.ways c.in_ok-ways.ensures.order, one.many))

pub returns-clause-flow : goal.returns-clause-flow
returns-clause-flow c = subst (λ p. IsFlow (freely c.args.g.now (has c.args.m.now) c.args.v) (p ∷ [])) (sym (read c)) (made c).0

pub returns-clause-over : goal.returns-clause-over
returns-clause-over c = ap second_of (read c) ∙ (made c).1

use Rattle.std.proofs.Common.{◌≡◌, ◌∷◌, [], true, map, ap, ◌∙◌, arith}
use Rattle.std.proofs.lemmas.Result.{IfOk-weaker}
use Rattle.tomo_base.specs.Sets.{has}
use Rattle.tomo_base.proofs.Links.{linked_below}
use Rattle.unit_flow.specs.Flows.{second_of}
use Rattle.cross_links.specs.Ways.{freely}
use Rattle.tomo_base.proofs.Members.{has_none, has_first}
use Rattle.cross_links.proofs.Tasks.{freely_ok, freely_grows, begins_freely, grown_kept, grown_more, order_many, order_has}
use Rattle.cross_links.proofs.flows.three_ways.Goals as goal

pub new-requires-2-clause-source : goal.new-requires-2-clause-source
new-requires-2-clause-source c = (linked_below c.args.g.now.nodes c.args.g.now.links c.args.v c.args.w c.requires.link.graph c.requires.link.linked).0

pub new-requires-2-clause-no_banned : goal.new-requires-2-clause-no_banned
new-requires-2-clause-no_banned c = ap (λ s. has s c.args.v) c.new.ensures ∙ has_none c.args.v

pub grow-requires-clause-grows : goal.grow-requires-clause-grows
grow-requires-clause-grows c =
    let g = c.args.g.now in
    let m = has c.args.m.now in
    let t = freely g m c.args.v in
    let below = linked_below g.nodes g.links c.args.v c.args.w c.requires.link.graph c.requires.link.linked in
    let begins = begins_freely g c.args.m.now c.new.result c.args.v c.in_ok-flow.flow c.in_ok-flow.ensures.begins c.new.ensures in
    freely_grows g m c.requires.link.none c.args.v 1 c.keep.new.self (freely_ok g m c.requires.link.graph c.args.v below.0 c.requires.link.plain) (omega arith)
    (grown_kept t c.in_ok-flow.flow c.keep.new.self c.deref.result.now begins.task c.keep.ensures)

pub grow-requires-2-clause-grows : goal.grow-requires-2-clause-grows
grow-requires-2-clause-grows c =
    let g = c.args.g.now in
    let m = has c.args.m.now in
    let t = freely g m c.args.v in
    let below = linked_below g.nodes g.links c.args.v c.args.w c.requires.link.graph c.requires.link.linked in
    let begins = begins_freely g c.args.m.now c.new.result c.args.v c.in_ok-flow.flow c.in_ok-flow.ensures.begins c.new.ensures in
    let one = grown_kept t c.in_ok-flow.flow c.keep.new.self c.deref.result.now begins.task c.keep.ensures in
    freely_grows g m c.requires.link.none c.args.v 2 c.grow.new.flow (freely_ok g m c.requires.link.graph c.args.v below.0 c.requires.link.plain) (omega arith)
    (grown_more t 1 c.keep.new.self c.grow.new.flow one c.in_ok-grow.ensures)

pub returns-clause-three : goal.returns-clause-three
returns-clause-three c =
    let g = c.args.g.now in
    let t = freely g (has c.args.m.now) c.args.v in
    let begins = begins_freely g c.args.m.now c.new.result c.args.v c.in_ok-flow.flow c.in_ok-flow.ensures.begins c.new.ensures in
    let one = grown_kept t c.in_ok-flow.flow c.keep.new.self c.deref.result.now begins.task c.keep.ensures in
    let two = grown_more t 1 c.keep.new.self c.grow.new.flow one c.in_ok-grow.ensures in
    let three = grown_more t 2 c.grow.new.flow c.grow-2.new.flow two c.in_ok-grow-2.ensures in
    IfOk-weaker c.paths.result _ _ (λ p o. order_many c.grow-2.new.flow.paths p o ∙ three.many) c.paths.ensures.order

pub returns-clause-over : goal.returns-clause-over
returns-clause-over c =
    let kept : c.keep.new.self.paths ≡ c.deref.result.now ∷ [] = ap (λ f. f.paths) c.keep.ensures in
    let second : second_of c.deref.result.now ≡ c.args.w = ap second_of c.deref.ensures.value ∙ c.in_ok-first.ensures.over in
    let first : has (map second_of c.keep.new.self.paths) c.args.w ≡ true = ap (λ ps. has (map second_of ps) c.args.w) kept ∙ (ap (λ x. has (x ∷ []) c.args.w) second ∙ has_first c.args.w []) in
    let last = c.in_ok-grow-2.ensures.wider.starts c.args.w (c.in_ok-grow.ensures.wider.starts c.args.w first) in
    IfOk-weaker c.paths.result _ _ (λ p o. order_has second_of c.grow-2.new.flow.paths p c.args.w o last) c.paths.ensures.order

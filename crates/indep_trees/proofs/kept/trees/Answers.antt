use Rattle.std.proofs.Common.{◌≡◌, ◌+◌, length, get_or, refl, sym, subst, ap, ◌∙◌, arith}
use Rattle.tomo_base.specs.Network.{Network}
use Rattle.tomo_base.specs.Cuts.{IsThreeConnected}
use Rattle.tomo_base.specs.Search.{entry_at}
use Rattle.indep_trees.proofs.Growing.{three_from, some_monitor, ends_from, are_trees, has_later, whole_numbered, whole_all, order_few}
use Rattle.indep_trees.proofs.kept.trees.Goals as goal

pub bounds-as_slice-0 : goal.bounds-as_slice-0
bounds-as_slice-0 c =
    let some = some_monitor c.args.g.now c.args.m.now c.nodes-n.ensures.graph c.requires.connected c.requires.nodes c.requires.identifies in
    let same : length c.as_slice.result.now ≡ length c.args.m.now = ap length c.as_slice.ensures.nodes in
    omega (arith, some, same)

pub order-requires-clause-three : goal.order-requires-clause-three
order-requires-clause-three c =
    subst IsThreeConnected (sym c.in_ok-wide.ensures) (three_from c.args.g.now c.args.m.now c.nodes-n.ensures.graph c.requires.connected c.requires.nodes c.requires.monitors c.requires.identifies)

pub order-requires-clause-ends : goal.order-requires-clause-ends
order-requires-clause-ends c =
    let some = some_monitor c.args.g.now c.args.m.now c.nodes-n.ensures.graph c.requires.connected c.requires.nodes c.requires.identifies in
    let t_is : get_or c.as_slice.result.now 0 0 ≡ entry_at c.args.m.now 0 = ap (λ z. entry_at z 0) c.as_slice.ensures.nodes in
    rw (c.in_ok-wide.ensures, c.nodes-n.ensures.nodes, t_is) (ends_from c.args.g.now c.args.m.now c.requires.monitors some)

pub placed-requires-clause-order : goal.placed-requires-clause-order
placed-requires-clause-order c =
    c.in_ok-ears.ensures.order

pub placed-requires-clause-nodes : goal.placed-requires-clause-nodes
placed-requires-clause-nodes c =
    let graph : c.in_ok-ears.ears.graph.nodes ≡ c.args.g.now.nodes + 2 = ap (λ (z : Network). z.nodes) (c.in_ok-ears.ensures.graph ∙ c.in_ok-wide.ensures) in
    omega (arith, graph, c.nodes-n.ensures.nodes)

pub placed-requires-clause-r : goal.placed-requires-clause-r
placed-requires-clause-r c =
    sym c.in_ok-ears.ensures.r_is

pub placed-requires-clause-t : goal.placed-requires-clause-t
placed-requires-clause-t c =
    sym c.in_ok-ears.ensures.t_is

pub all_later-requires-clause-nodes : goal.all_later-requires-clause-nodes
all_later-requires-clause-nodes c =
    let nodes : c.in_ok-wide.wide.nodes ≡ c.args.g.now.nodes + 2 = ap (λ (z : Network). z.nodes) c.in_ok-wide.ensures in
    omega (arith, nodes, c.nodes-n.ensures.nodes)

pub all_later-requires-clause-ears : goal.all_later-requires-clause-ears
all_later-requires-clause-ears c =
    let nodes : c.in_ok-wide.wide.nodes ≡ c.args.g.now.nodes + 2 = ap (λ (z : Network). z.nodes) c.in_ok-wide.ensures in
    rw c.deref.ensures.value (omega (arith, nodes, c.nodes-n.ensures.nodes, c.in_ok-places.ensures.ears))

pub all_later-requires-clause-later : goal.all_later-requires-clause-later
all_later-requires-clause-later c =
    let some = some_monitor c.args.g.now c.args.m.now c.nodes-n.ensures.graph c.requires.connected c.requires.nodes c.requires.identifies in
    let t_is : get_or c.as_slice.result.now 0 0 ≡ entry_at c.args.m.now 0 = ap (λ z. entry_at z 0) c.as_slice.ensures.nodes in
    let numbered = whole_numbered c.args.g.now c.args.m.now c.in_ok-ears.ears c.in_ok-wide.wide c.in_ok-wide.ensures c.nodes-n.result (get_or c.as_slice.result.now 0 0) c.nodes-n.ensures.nodes t_is c.in_ok-ears.ensures c.in_ok-places.places.order.items (entry_at c.in_ok-places.places.low.items) (entry_at c.in_ok-places.places.high.items) (entry_at c.in_ok-places.places.ears.items) (length c.in_ok-ears.ears.list + 1) c.in_ok-places.ensures.numbered in
    let all = whole_all c.args.g.now c.args.m.now c.in_ok-ears.ears c.in_ok-wide.wide c.in_ok-wide.ensures c.nodes-n.result (get_or c.as_slice.result.now 0 0) (c.nodes-n.result + 1) c.in_ok-ears.ensures in
    rw (c.deref.ensures.value, c.in_ok-wide.ensures, c.nodes-n.ensures.nodes) (has_later c.args.g.now c.args.m.now c.nodes-n.ensures.graph some _ c.in_ok-places.places.order.items (entry_at c.in_ok-places.places.low.items) (entry_at c.in_ok-places.places.high.items) (entry_at c.in_ok-places.places.ears.items) _ numbered all)

pub numbered-requires-clause-few : goal.numbered-requires-clause-few
numbered-requires-clause-few c =
    rw c.deref-2.ensures.value (order_few c.in_ok-ears.ears c.in_ok-ears.ensures.order _ _ _ c.in_ok-places.places.order.items _ _ _ _ c.in_ok-places.ensures.numbered)

pub numbered-requires-clause-different : goal.numbered-requires-clause-different
numbered-requires-clause-different c =
    rw c.deref-2.ensures.value c.in_ok-places.ensures.numbered.distinct

pub returns-clause-graph : goal.returns-clause-graph
returns-clause-graph c =
    let links : c.in_ok-links.links.items ≡ c.args.g.now.links = c.in_ok-links.ensures.items_if_clones_equal (λ y h e. e) ∙ c.links.ensures.links in
    rw (links, c.nodes-n.ensures.nodes) refl

pub returns-clause-monitors : goal.returns-clause-monitors
returns-clause-monitors c =
    c.in_ok-monitors.ensures

pub returns-clause-trees : goal.returns-clause-trees
returns-clause-trees c =
    let links : c.in_ok-links.links.items ≡ c.args.g.now.links = c.in_ok-links.ensures.items_if_clones_equal (λ y h e. e) ∙ c.links.ensures.links in
    let some = some_monitor c.args.g.now c.args.m.now c.nodes-n.ensures.graph c.requires.connected c.requires.nodes c.requires.identifies in
    let t_is : get_or c.as_slice.result.now 0 0 ≡ entry_at c.args.m.now 0 = ap (λ z. entry_at z 0) c.as_slice.ensures.nodes in
    let numbered = whole_numbered c.args.g.now c.args.m.now c.in_ok-ears.ears c.in_ok-wide.wide c.in_ok-wide.ensures c.nodes-n.result (get_or c.as_slice.result.now 0 0) c.nodes-n.ensures.nodes t_is c.in_ok-ears.ensures c.in_ok-places.places.order.items (entry_at c.in_ok-places.places.low.items) (entry_at c.in_ok-places.places.high.items) (entry_at c.in_ok-places.places.ears.items) (length c.in_ok-ears.ears.list + 1) c.in_ok-places.ensures.numbered in
    let all = whole_all c.args.g.now c.args.m.now c.in_ok-ears.ears c.in_ok-wide.wide c.in_ok-wide.ensures c.nodes-n.result (get_or c.as_slice.result.now 0 0) (c.nodes-n.result + 1) c.in_ok-ears.ensures in
    rw (links, c.nodes-n.ensures.nodes, c.in_ok-monitors.ensures) (are_trees c.args.g.now c.args.m.now c.nodes-n.ensures.graph some _ c.in_ok-places.places.order.items c.in_ok-places.places.low.items c.in_ok-places.places.high.items c.in_ok-places.places.ears.items
    c.in_ok-third.third.items c.in_ok-numbers.numbers.items c.shorten_all.new.places.low.items c.shorten_all.new.places.high.items c.shorten_all.new.third.items _ numbered all
    (rw (c.in_ok-wide.ensures, c.nodes-n.ensures.nodes) at c.in_ok-third.ensures.link)
    (rw (c.deref.ensures.value, c.nodes-n.ensures.nodes) at c.in_ok-third.ensures.later)
    (rw (c.deref-2.ensures.value, c.nodes-n.ensures.nodes) at c.in_ok-numbers.ensures.numbers)
    (rw c.deref-3.ensures.value at c.in_ok-shorten_all.ensures.low)
    (rw c.deref-3.ensures.value at c.in_ok-shorten_all.ensures.high)
    c.in_ok-shorten_all.ensures.third)

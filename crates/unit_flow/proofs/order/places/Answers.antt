use Rattle.std.proofs.Common.{◌≡◌, ◌<◌, ◌≤◌, length, map, [], get_or, Some, sym, ap, subst, ◌∙◌, arith, length-set}
use Rattle.std.proofs.lemmas.List.{get_or-map}
use Rattle.unit_flow.specs.Flows.{second_of}
use Rattle.unit_flow.specs.Order.{ArePlaces}
use Rattle.unit_flow.proofs.Sorting.{second_at, places_more}
use Rattle.unit_flow.proofs.order.places.Goals as goal

pub loop-i-preserved : goal.loop-i-preserved
loop-i-preserved c =
    let i = c.loop-i.i in
    let u = c.index.result.now in
    let path = c.index-paths-i.result in
    let paths = c.args.paths.now in
    let places = c.loop-i.places.items in
    let inside : i < length paths = c.loop-i-test.true in
    let two : 2 ≤ length path.items = subst (λ p. 2 ≤ length p.items) (sym c.index-paths-i.is) (c.requires.long i path inside) in
    let second : u ≡ second_of path.items = c.index.ensures ∙ second_at path.items u two in
    let below : second_of path.items < c.args.count = subst (λ p. second_of p.items < c.args.count) (sym c.index-paths-i.is) (c.requires.inside i path inside) in
    let room : u < length places = omega (arith, second, below, c.loop-i.invariant.0) in
    let same : second_of (get_or (map (λ p. p.items) paths) i []) ≡ u = ap second_of (get_or-map (λ p. p.items) paths i path [] inside ∙ ap (λ p. p.items) (sym c.index-paths-i.is)) ∙ sym second in
    (length-set places u (Some i) ∙ c.loop-i.invariant.0, places_more (map (λ p. p.items) paths) i u places room same c.loop-i.invariant.1)

pub returns-clause-places : goal.returns-clause-places
returns-clause-places c =
    let all : c.loop-i.i ≡ length c.args.paths.now = omega (arith, c.loop-i-test.false, c.loop-i.auto.i-end) in
    subst (λ n. ArePlaces (map (λ p. p.items) c.args.paths.now) n c.loop-i.places.items) all c.loop-i.invariant.1

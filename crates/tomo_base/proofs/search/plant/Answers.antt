use Rattle.std.proofs.Common.{◌≤◌, ◌∙◌, length, arith, refl}
use Rattle.std.proofs.lemmas.List.{take_all}
use Rattle.tomo_base.proofs.Planting.{planting_none, planting_more, planting_few, planted_roots}
use Rattle.tomo_base.proofs.search.plant.Goals as goal

pub loop-seed-init : goal.loop-seed-init
loop-seed-init c = rw c.new.ensures.items (planting_none _ _ _ _ (c.in_ok-vec.ensures.items_if_clones_equal (λ y h. h)) (c.in_ok-vec-2.ensures.items_if_clones_equal (λ y h. h)))

pub reach-requires-clause-few : goal.reach-requires-clause-few
reach-requires-clause-few c =
    let few : length c.loop-seed.found.order.items ≤ c.args.n = planting_few _ _ _ _ c.requires.nodes c.loop-seed.invariant in
    omega (arith, few, c.requires.few)

pub loop-seed-preserved : goal.loop-seed-preserved
loop-seed-preserved c = rw (c.in_ok-reach.ensures.order, c.in_ok-reach.ensures.parents, c.in_ok-reach.ensures.ranks)
    (planting_more _ _ _ _ _ c.loop-seed-test.true refl (c.requires.nodes _ 0 c.loop-seed-test.true) c.requires.different c.loop-seed.invariant)

pub returns-clause-order : goal.returns-clause-order
returns-clause-order c = c.loop-seed.invariant.first ∙ take_all _ _ c.loop-seed-test.false

pub returns-clause-roots : goal.returns-clause-roots
returns-clause-roots c = planted_roots _ _ _ _ c.loop-seed-test.false c.loop-seed.invariant

use Rattle.std.proofs.Common.{◌≡◌, ◌≤◌, length, arith}
use Rattle.tomo_base.proofs.Planting.{planted}
use Rattle.tomo_base.proofs.Ranks.{few_ranked}
use Rattle.tomo_base.proofs.search.sweep.Goals as goal
use Rattle.tomo_base.proofs.Looking.{state_of}

pub loop-head-init : goal.loop-head-init
loop-head-init c =
    let begun = c.in_ok-found.ensures in
    let same = c.nodes.ensures.nodes in
    (planted c.args.g.now c.args.free.now c.args.seeds.now (state_of c.in_ok-found.found) begun.order (rw same at (begun.ranks c.args.free.now c.requires.free)) (rw same at begun.parents) begun.roots, omega arith)

pub loop-head-smaller : goal.loop-head-smaller
loop-head-smaller c =
    let few : length c.loop-head.found.order.items ≤ c.args.g.now.nodes = few_ranked _ _ _ _ c.loop-head.invariant.0.ranks in
    omega (arith, few, c.loop-head-test.true, c.len.ensures)

pub loop-head-preserved : goal.loop-head-preserved
loop-head-preserved c = (c.in_ok-look.ensures.searched c.args.seeds.now c.loop-head.invariant.0, omega (arith, c.in_ok-look.ensures.place))

pub returns : goal.returns
returns c =
    let all : c.loop-head.head ≡ length c.loop-head.found.order.items = omega (arith, c.loop-head-test.false, c.len.ensures, c.loop-head.invariant.1) in
    rw all at c.loop-head.invariant.0

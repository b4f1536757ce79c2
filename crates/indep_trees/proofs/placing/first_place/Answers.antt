use Rattle.std.proofs.Common.{arith}
use Rattle.tomo_base.proofs.Ascending.{place_in}
use Rattle.indep_trees.proofs.placing.first_place.Goals as goal

pub unreachable-requires : goal.unreachable-requires
unreachable-requires c =
    let k = place_in c.args.nodes.now c.args.v c.requires in
    (c.loop-i.invariant k.0 (omega (arith, k.1, c.loop-i-test.false))).0 k.2

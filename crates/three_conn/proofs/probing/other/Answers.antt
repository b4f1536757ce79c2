use Rattle.std.proofs.Common.{arith}
use Rattle.tomo_base.specs.Search.{mark_of}
use Rattle.three_conn.proofs.Sets.{one_beside_one}
use Rattle.three_conn.proofs.probing.other.Goals as goal

pub unreachable-requires : goal.unreachable-requires
unreachable-requires c =
    let z = one_beside_one c.args.g.now.nodes (mark_of c.args.nodes.now) c.args.root c.requires.two in
    z.3 (c.loop-v.invariant z.0 (omega (arith, z.1, c.loop-v-test.false, c.nodes-v-end.ensures.nodes)) z.2)

use Rattle.std.proofs.Common.{◌<◌, length, arith}
use Rattle.tomo_base.proofs.Links.{linked_below}
use Rattle.simple_path.proofs.Along.{one_delay, place_below}
use Rattle.simple_path.proofs.sums.delay_of.Goals as goal

pub between-requires-clause-first : goal.between-requires-clause-first
between-requires-clause-first c = (linked_below c.args.g.now.nodes c.args.g.now.links c.args.a c.args.b c.nodes-nodes.ensures.graph c.requires.linked).0

pub between-requires-clause-second : goal.between-requires-clause-second
between-requires-clause-second c = (linked_below c.args.g.now.nodes c.args.g.now.links c.args.a c.args.b c.nodes-nodes.ensures.graph c.requires.linked).1

pub bounds-delays-link : goal.bounds-delays-link
bounds-delays-link c = omega (arith, place_below c.args.g.now.links c.in-Some.link c.args.a c.args.b c.in-Some.ensures.found, c.requires.one_each)

pub returns-clause-delay : goal.returns-clause-delay
returns-clause-delay c =
    let below : c.in-Some.link < length c.args.delays.now = omega (arith, place_below c.args.g.now.links c.in-Some.link c.args.a c.args.b c.in-Some.ensures.found, c.requires.one_each) in
    one_delay c.args.g.now.nodes c.args.g.now.links c.args.delays.now c.in-Some.link c.args.a c.args.b 0 c.nodes-nodes.ensures.graph c.in-Some.ensures.found below

use Rattle.std.proofs.Common.{◌≡◌, min, arith}
use Rattle.tomo_base.specs.Sets.{has, outside, size}
use Rattle.tomo_base.proofs.Members.{count-has}
use Rattle.tomo_base.proofs.pocket.need.Goals as goal

pub overflow_sub-outside : goal.overflow_sub-outside
overflow_sub-outside c = omega (arith, c.count-outside.ensures c.args.g.now.nodes (outside c.args.g.now (has c.args.p.now)) c.outside_met.ensures)

pub returns : goal.returns
returns c =
    let nodes = count-has c.args.g.now.nodes c.args.p.now c.len.ensures.set.ascending c.requires.nodes in
    let met : c.count-outside.result ≡ min 3 (size c.args.g.now (outside c.args.g.now (has c.args.p.now))) = c.count-outside.ensures c.args.g.now.nodes _ c.outside_met.ensures in
    omega (arith, c.min.ensures, c.len.ensures.len, nodes, met)

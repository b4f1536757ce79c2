use Rattle.std.proofs.Common.{◌==◌, ◌≤◌, subst, refl, arith}
use Rattle.tomo_base.specs.Sets.{has, degree}
use Rattle.tomo_base.proofs.Touching.{length-hops}
use Rattle.unit_flow.specs.Fan.{IsFan}
use Rattle.ident_laws.proofs.Dropping.{three_leave_no_own_pocket}
use Rattle.ident_laws.proofs.Homes.{narrow_node_is_home}
use Rattle.drop_place.proofs.lowest.leave_out.Goals as goal

pub returns-then-hops-lt3 : goal.returns-then-hops-lt3
returns-then-hops-lt3 c =
    let g = c.args.g.now in
    let u = c.args.u in
    let narrow : degree g u ≤ 2 = omega (arith, c.if-hops-lt3.true, length-hops g u c.hops.result.now c.requires.graph c.hops.ensures) in
    ((λ v. u == v), (narrow_node_is_home g (has c.args.m.now) (λ v. u == v) u narrow (λ v. refl)).0)

pub fan-requires-clause-targets : goal.fan-requires-clause-targets
fan-requires-clause-targets c = c.in_ok-rest.ensures.below c.args.g.now.nodes c.requires.nodes

pub returns-in-Three : goal.returns-in-Three
returns-in-Three c =
    let fanned = subst (IsFan c.args.g.now c.args.u c.in_ok-rest.rest) c.in-Three.is c.in_ok-fan.ensures in
    record {
      rest_is = c.in_ok-rest.ensures.nodes;
      nodes = c.in_ok-rest.ensures.below c.args.g.now.nodes c.requires.nodes;
      none = three_leave_no_own_pocket c.args.g.now (has c.args.m.now) (has c.in_ok-rest.rest) c.args.u (λ v l. c.in_ok-rest.ensures.nodes v) fanned.3;
    }

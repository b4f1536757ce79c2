use Rattle.std.proofs.Common.{ℕ, ◌≡◌, ◌==◌, ◌≤◌, subst, arith}
use Rattle.tomo_base.specs.Sets.{has, degree}
use Rattle.tomo_base.proofs.Touching.{length-hops}
use Rattle.unit_flow.specs.Fan.{IsFan}
use Rattle.ident_laws.proofs.Dropping.{three_leave_no_own_pocket, may_leave_out}
use Rattle.ident_laws.proofs.Homes.{narrow_node_is_home, least_cut_off_is_home}
use Rattle.pocket_bound.proofs.Alone.{only_one, alone_nodes}
use Rattle.pocket_bound.proofs.homes.home.Goals as goal

-- the node was put into the empty set
alone : (c : goal.In_ok-insert) (v : ℕ) → has c.insert.new.self v ≡ (c.args.x == v)
alone c v = only_one c.insert.new.self c.args.x v (rw c.new-alone.ensures at (c.in_ok-insert.ensures.nodes v))

pub returns-then-hops-lt3-clause-home : goal.returns-then-hops-lt3-clause-home
returns-then-hops-lt3-clause-home c =
    let g = c.args.g.now in
    let x = c.args.x in
    let narrow : degree g x ≤ 2 = omega (arith, c.if-hops-lt3.true, length-hops g x c.hops.result.now c.requires.graph c.hops.ensures) in
    (narrow_node_is_home g (has c.args.m.now) (has c.insert.new.self) x narrow (alone c)).1

pub returns-then-hops-lt3-clause-nodes : goal.returns-then-hops-lt3-clause-nodes
returns-then-hops-lt3-clause-nodes c = alone_nodes c.args.g.now.nodes c.args.x c.insert.new.self c.requires.node (alone c)

pub fan-requires-clause-targets : goal.fan-requires-clause-targets
fan-requires-clause-targets c = c.in_ok-rest.ensures.below c.args.g.now.nodes c.requires.nodes

pub unreachable-requires : goal.unreachable-requires
unreachable-requires c =
    let fanned = subst (IsFan c.args.g.now c.args.x c.in_ok-rest.rest) c.in-Three.is c.in_ok-fan.ensures in
    let none = three_leave_no_own_pocket c.args.g.now (has c.args.m.now) (has c.in_ok-rest.rest) c.args.x (λ v l. c.in_ok-rest.ensures.nodes v) fanned.3 in
    c.requires.kept ((may_leave_out c.args.g.now (has c.args.m.now) c.args.x c.requires.good c.requires.node).1 (λ s own. none (s, own)))

pub returns-clause-home : goal.returns-clause-home
returns-clause-home c =
    let fanned = subst (IsFan c.args.g.now c.args.x c.in_ok-rest.rest) c.in-Few.is c.in_ok-fan.ensures in
    least_cut_off_is_home c.args.g.now (has c.args.m.now) (has c.in_ok-rest.rest) (has c.in-Few.home) c.args.x fanned.0 c.requires.good c.requires.node c.requires.member
    (λ v l. c.in_ok-rest.ensures.nodes v) (omega (arith, fanned.1)) fanned.2.cut fanned.2.no_fewer fanned.2.least

use Rattle.std.proofs.Common.{◌≡◌, ◌<◌, [], length, false, sym, ap, subst, ◌∙◌, arith}
use Rattle.tomo_base.specs.Sets.{has}
use Rattle.unit_flow.specs.Flows.{Routing, no_paths, IsTask, IsFlow, routing_task}
use Rattle.unit_flow.specs.Widening.{Widens, IsStuck}
use Rattle.unit_flow.specs.declared.flow.Widened.TheVariants.{Stuck}
use Rattle.tomo_base.proofs.Members.{has_none}
use Rattle.unit_flow.proofs.CutOffs.{paths_bound, stuck_cut_off}
use Rattle.unit_flow.proofs.fans.fan.Goals as goal

pub new-requires-2-clause-no_banned : goal.new-requires-2-clause-no_banned
new-requires-2-clause-no_banned c = subst (λ z. has z c.args.source ≡ false) (sym c.new.ensures) (has_none c.args.source)

pub returns-in-Stuck : goal.returns-in-Stuck
returns-in-Stuck c =
    let empty : Routing = no_paths c.args.g.now c.args.source c.args.targets.now [] in
    let ok : IsTask (routing_task empty) = subst (λ f. IsTask (routing_task f)) (c.in_ok-flow.ensures.begins ∙ ap (no_paths c.args.g.now c.args.source c.args.targets.now) c.new.ensures) c.in_ok-flow.ensures.task in
    let paths = c.loop.flow.paths in
    let few : length paths < 3 = omega (arith, c.loop.invariant.2, c.loop-test.true) in
    let widens : Widens c.loop.flow c.widen.new.self (Stuck c.in-Stuck.cut) = subst (Widens c.loop.flow c.widen.new.self) c.in-Stuck.is c.in_ok-cut.ensures.ok in
    let stuck : IsStuck (routing_task empty) paths c.in-Stuck.cut = subst (λ f. IsStuck (routing_task f) paths c.in-Stuck.cut) c.loop.invariant.0 widens.1 in
    (length paths, few, stuck_cut_off c.args.g.now c.args.source c.args.targets.now ok paths c.in-Stuck.cut c.loop.invariant.1 stuck, stuck.below)

pub returns : goal.returns
returns c =
    let empty : Routing = no_paths c.args.g.now c.args.source c.args.targets.now [] in
    let ok : IsTask (routing_task empty) = subst (λ f. IsTask (routing_task f)) (c.in_ok-flow.ensures.begins ∙ ap (no_paths c.args.g.now c.args.source c.args.targets.now) c.new.ensures) c.in_ok-flow.ensures.task in
    let paths = c.loop.flow.paths in
    let three : length paths ≡ 3 = omega (arith, c.loop.invariant.2, c.loop-test.false, c.loop.auto.counter-end) in
    (c.loop.invariant.0, subst (λ f. IsFlow (routing_task f) paths) (sym c.loop.invariant.0) c.loop.invariant.1, three, λ p k cut. omega (arith, three, paths_bound c.args.g.now c.args.source c.args.targets.now ok paths c.loop.invariant.1 p k cut))

use Rattle.std.proofs.Common.{◌≡◌, map, take, refl, sym, ap, subst, ◌∙◌, arith}
use Rattle.std.proofs.lemmas.List.{length-map, take_all}
use Rattle.tomo_base.specs.Search.{mark_of}
use Rattle.unit_flow.specs.Flows.{Routing, IsTask, IsWider, routing_task}
use Rattle.unit_flow.specs.Search.{asked, IsAsked}
use Rattle.unit_flow.specs.Widening.{Comes}
use Rattle.unit_flow.proofs.Kept.{kept_task, came, flow_few, stuck_by}
use Rattle.unit_flow.proofs.flow.Flow.widen.Goals as goal

pub overflow_cast-self : goal.overflow_cast-self
overflow_cast-self c =
    let t = asked c.args.g.now c.self.inside.ask in
    let new = c.in-Wider.paths in
    let ok : IsAsked c.args.g.now c.self.inside.ask = subst (λ z. IsAsked z c.self.inside.ask) (ap (λ (r : Routing). r.graph) c.self.view_is ∙ c.requires) c.self.invariant.is_asked in
    let wider : IsWider t (map (λ p. p.items) (take c.self.inside.count c.deref.result.now)) (map (λ p. p.items) new.items) =
    subst (Comes t (map (λ p. p.items) (take c.self.inside.count c.deref.result.now))) c.in-Wider.is c.in_ok-paths.ensures in
    omega (arith, flow_few t ok.task (map (λ p. p.items) new.items) wider.flow, ok.few, length-map new.items (λ p. p.items), new.ok, c.len.ensures)

pub returns-in-Wider-clause-ok : goal.returns-in-Wider-clause-ok
returns-in-Wider-clause-ok c =
    let old = c.args.self.now in
    let new = c.in-Wider.paths in
    let all : take c.len.result new.items ≡ new.items = take_all c.len.result new.items (omega (arith, new.ok, c.len.ensures)) in (
      ap (λ (r : Routing). record r { paths = map (λ p. p.items) (take c.len.result new.items) }) c.self.view_is,
      subst (λ z. IsWider (routing_task old) old.paths (map (λ p. p.items) z)) (sym all) (came c.self.invariant c.self.view_is c.requires c.deref.ensures.value c.in-Wider.is c.in_ok-paths.ensures),
    )

pub returns-in_ok-marked-in-Reached-clause-ok : goal.returns-in_ok-marked-in-Reached-clause-ok
returns-in_ok-marked-in-Reached-clause-ok c =
    let old = c.args.self.now in
    let seen = c.in-Reached.seen.items in
    let ok : IsTask (routing_task old) = subst IsTask (kept_task c.self.invariant c.self.view_is) c.self.invariant.is_asked.task in
    let reached = came c.self.invariant c.self.view_is c.requires c.deref.ensures.value c.in-Reached.is c.in_ok-paths.ensures in
    let read : c.deref-in-Reached.result.now ≡ seen = c.deref-in-Reached.ensures.value in
    (refl, stuck_by (routing_task old) ok old.paths seen c.in_ok-marked-in-Reached.field-0 reached.0 reached.1 (λ v. c.in_ok-marked-in-Reached.ensures v ∙ ap (λ z. mark_of z v) read))

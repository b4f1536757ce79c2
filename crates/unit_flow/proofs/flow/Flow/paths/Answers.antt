use Rattle.std.proofs.Common.{◌≡◌, ℕ, List, map, take, subst}
use Rattle.std.proofs.lemmas.Result.{IfOk-weaker}
use Rattle.unit_flow.specs.Flows.{IsFlow, routing_task}
use Rattle.unit_flow.specs.Order.{AreInOrder}
use Rattle.unit_flow.proofs.Kept.{kept_task}
use Rattle.unit_flow.proofs.Orders.{flow_permuted}
use Rattle.unit_flow.proofs.Seconds.{listed}
use Rattle.unit_flow.proofs.flow.Flow.paths.Goals as goal

pub by_second-requires-clause-long : goal.by_second-requires-clause-long
by_second-requires-clause-long c = (listed c.self.invariant c.deref.ensures.value).long

pub by_second-requires-clause-inside : goal.by_second-requires-clause-inside
by_second-requires-clause-inside c = (listed c.self.invariant c.deref.ensures.value).inside

pub by_second-requires-clause-differ : goal.by_second-requires-clause-differ
by_second-requires-clause-differ c = (listed c.self.invariant c.deref.ensures.value).differ

pub by_second-requires-clause-few : goal.by_second-requires-clause-few
by_second-requires-clause-few c = (listed c.self.invariant c.deref.ensures.value).few

pub by_second-requires-clause-room : goal.by_second-requires-clause-room
by_second-requires-clause-room c = (listed c.self.invariant c.deref.ensures.value).room

pub returns-clause-flow : goal.returns-clause-flow
returns-clause-flow c =
    let t = routing_task c.args.self.now in
    let lent : c.deref.result.now ≡ c.self.inside.paths.items = c.deref.ensures.value in
    let read : List (List ℕ) = map (λ p. p.items) (take c.self.inside.count c.deref.result.now) in
    let flow : IsFlow t read = rw lent (subst (λ z. IsFlow z (map (λ p. p.items) (take c.self.inside.count c.self.inside.paths.items))) (kept_task c.self.invariant c.self.view_is) c.self.invariant.flow) in
    IfOk-weaker c.by_second.result (AreInOrder read) (IsFlow t) (λ pool order. flow_permuted t read pool order.same flow) c.by_second.ensures

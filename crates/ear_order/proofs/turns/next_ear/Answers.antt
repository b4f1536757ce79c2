use Rattle.std.proofs.Common.{◌<◌, ℕ, Vec, All, length, inl, sym, subst, ap, ◌∙◌, arith}
use Rattle.std.specs.Global.{Global}
use Rattle.std.proofs.lemmas.Result.{IfOk-weaker}
use Rattle.tomo_base.specs.Search.{mark_of}
use Rattle.ear_order.specs.Ears.{LeavesConnected}
use Rattle.ear_order.specs.Turns.{ContinuesWith}
use Rattle.ear_order.proofs.Turning.{rest_size, u_left, part_read, part_some, all_left, alone_left, last_read, order_left}
use Rattle.ear_order.proofs.turns.next_ear.Goals as goal

pub part_of-requires-clause-marks : goal.part_of-requires-clause-marks
part_of-requires-clause-marks c = ap length c.deref.ensures.value ∙ rest_size c.args.g.now c.nodes-nodes.ensures.graph c.args.old.now c.in_ok-rest.rest.items c.args.u c.requires c.in_ok-rest.ensures

pub part_of-requires-clause-free : goal.part_of-requires-clause-free
part_of-requires-clause-free c = ap (λ xs. mark_of xs c.args.u) c.deref.ensures.value ∙ u_left c.args.g.now c.nodes-nodes.ensures.graph c.args.old.now c.in_ok-rest.rest.items c.args.u c.requires c.in_ok-rest.ensures

pub last_ear-requires-clause-alone : goal.last_ear-requires-clause-alone
last_ear-requires-clause-alone c =
    let p = part_read c.args.g.now c.nodes-nodes.ensures.graph c.args.old.now c.in_ok-rest.rest.items c.args.u c.requires c.in_ok-rest.ensures _ c.in_ok-far.far.order.items (mark_of c.in_ok-far.far.inside.items) c.deref.ensures.value c.in_ok-far.ensures.part in
    alone_left c.args.g.now c.nodes-nodes.ensures.graph c.args.old.now c.in_ok-rest.rest.items c.args.u c.requires c.in_ok-rest.ensures c.in_ok-far.far.order.items (mark_of c.in_ok-far.far.inside.items) p (omega (arith, c.if-count-eq1.true, c.len-count.ensures, c.in_ok-far.far.order.ok))

pub overflow_sub-count : goal.overflow_sub-count
overflow_sub-count c =
    let p = part_read c.args.g.now c.nodes-nodes.ensures.graph c.args.old.now c.in_ok-rest.rest.items c.args.u c.requires c.in_ok-rest.ensures _ c.in_ok-far.far.order.items (mark_of c.in_ok-far.far.inside.items) c.deref.ensures.value c.in_ok-far.ensures.part in
    omega (arith, part_some c.args.g.now c.nodes-nodes.ensures.graph c.args.old.now c.in_ok-rest.rest.items c.args.u c.requires c.in_ok-rest.ensures c.in_ok-far.far.order.items (mark_of c.in_ok-far.far.inside.items) p, c.len-count.ensures, c.in_ok-far.far.order.ok)

pub index-x-requires : goal.index-x-requires
index-x-requires c =
    let p = part_read c.args.g.now c.nodes-nodes.ensures.graph c.args.old.now c.in_ok-rest.rest.items c.args.u c.requires c.in_ok-rest.ensures _ c.in_ok-far.far.order.items (mark_of c.in_ok-far.far.inside.items) c.deref.ensures.value c.in_ok-far.ensures.part in
    omega (arith, part_some c.args.g.now c.nodes-nodes.ensures.graph c.args.old.now c.in_ok-rest.rest.items c.args.u c.requires c.in_ok-rest.ensures c.in_ok-far.far.order.items (mark_of c.in_ok-far.far.inside.items) p, c.len-count.ensures, c.in_ok-far.far.order.ok)

pub candidate-requires-clause-node : goal.candidate-requires-clause-node
candidate-requires-clause-node c =
    let p = part_read c.args.g.now c.nodes-nodes.ensures.graph c.args.old.now c.in_ok-rest.rest.items c.args.u c.requires c.in_ok-rest.ensures _ c.in_ok-far.far.order.items (mark_of c.in_ok-far.far.inside.items) c.deref.ensures.value c.in_ok-far.ensures.part in
    rw c.deref-2.ensures.value (last_read c.args.g.now c.nodes-nodes.ensures.graph c.args.old.now c.in_ok-rest.rest.items c.args.u c.requires c.in_ok-rest.ensures c.in_ok-far.far.order.items (mark_of c.in_ok-far.far.inside.items) p c.len-count.result _ (omega (arith, c.len-count.ensures, c.in_ok-far.far.order.ok)) c.if-count-eq1.false c.index-x.ensures).0

pub candidate-requires-clause-other : goal.candidate-requires-clause-other
candidate-requires-clause-other c =
    let p = part_read c.args.g.now c.nodes-nodes.ensures.graph c.args.old.now c.in_ok-rest.rest.items c.args.u c.requires c.in_ok-rest.ensures _ c.in_ok-far.far.order.items (mark_of c.in_ok-far.far.inside.items) c.deref.ensures.value c.in_ok-far.ensures.part in
    (last_read c.args.g.now c.nodes-nodes.ensures.graph c.args.old.now c.in_ok-rest.rest.items c.args.u c.requires c.in_ok-rest.ensures c.in_ok-far.far.order.items (mark_of c.in_ok-far.far.inside.items) p c.len-count.result _ (omega (arith, c.len-count.ensures, c.in_ok-far.far.order.ok)) c.if-count-eq1.false c.index-x.ensures).1

pub bettered-requires-clause-nodes : goal.bettered-requires-clause-nodes
bettered-requires-clause-nodes c =
    let p = part_read c.args.g.now c.nodes-nodes.ensures.graph c.args.old.now c.in_ok-rest.rest.items c.args.u c.requires c.in_ok-rest.ensures _ c.in_ok-far.far.order.items (mark_of c.in_ok-far.far.inside.items) c.deref.ensures.value c.in_ok-far.ensures.part in
    subst (All (λ v. v < c.args.g.now.nodes)) (sym c.deref-4.ensures.value) (order_left c.args.g.now c.nodes-nodes.ensures.graph c.args.old.now c.in_ok-rest.rest.items c.args.u c.requires c.in_ok-rest.ensures c.in_ok-far.far.order.items (mark_of c.in_ok-far.far.inside.items) p)

pub bettered-requires-clause-all : goal.bettered-requires-clause-all
bettered-requires-clause-all c =
    let p = part_read c.args.g.now c.nodes-nodes.ensures.graph c.args.old.now c.in_ok-rest.rest.items c.args.u c.requires c.in_ok-rest.ensures _ c.in_ok-far.far.order.items (mark_of c.in_ok-far.far.inside.items) c.deref.ensures.value c.in_ok-far.ensures.part in
    rw (c.deref-3.ensures.value, c.deref-4.ensures.value) (all_left c.args.g.now c.nodes-nodes.ensures.graph c.args.old.now c.in_ok-rest.rest.items c.args.u c.requires c.in_ok-rest.ensures c.in_ok-far.far.order.items (mark_of c.in_ok-far.far.inside.items) p)

pub returns-clause-next : goal.returns-clause-next
returns-clause-next c = IfOk-weaker c.bettered.result (λ (e : Vec ℕ Global). LeavesConnected c.args.g.now c.args.u (mark_of c.args.old.now) e.items) (λ (e : Vec ℕ Global). ContinuesWith c.args.g.now c.args.u (mark_of c.args.old.now) e.items)
    (λ e h. inl h) c.bettered.ensures.goes_on

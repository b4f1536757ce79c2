use Rattle.std.proofs.Common.{◌≡◌, true, false, not, sym, ap, ◌∙◌}
use Rattle.tomo_base.specs.Sets.{has}
use Rattle.tomo_base.proofs.Ascending.{belongs_at, belongs_new, has_found, has_already, has-insert, insert_node}
use Rattle.tomo_base.proofs.node_set.NodeSet.insert.Goals as goal

pub invariant_of-self-in-Err : goal.invariant_of-self-in-Err
invariant_of-self-in-Err c =
    rw c.in_ok-insert-in-Err.ensures.items
    (insert_node c.self.inside.nodes.items c.in-Err.place c.args.v c.self.invariant (belongs_at _ _ _ c.self.invariant (rw c.deref.ensures.value at c.in-Err.ensures.position)) c.requires)

pub returns-in-Ok-clause-nodes : goal.returns-in-Ok-clause-nodes
returns-in-Ok-clause-nodes c =
    has_already c.args.self.now c.args.v (ap (λ xs. has xs c.args.v) (sym c.self.view_is) ∙ has_found c.self.inside.nodes.items c.args.v c.in-Ok.field-0 c.self.invariant (rw c.deref.ensures.value at c.in-Ok.ensures.position))

pub returns-in-Ok-clause-new : goal.returns-in-Ok-clause-new
returns-in-Ok-clause-new c =
    let found : has c.args.self.now c.args.v ≡ true = ap (λ xs. has xs c.args.v) (sym c.self.view_is) ∙ has_found c.self.inside.nodes.items c.args.v c.in-Ok.field-0 c.self.invariant (rw c.deref.ensures.value at c.in-Ok.ensures.position) in
    ap not (sym found)

pub returns-in_ok-insert-in-Err-clause-nodes : goal.returns-in_ok-insert-in-Err-clause-nodes
returns-in_ok-insert-in-Err-clause-nodes c = λ w. rw (c.in_ok-insert-in-Err.ensures.items, ← c.self.view_is) (has-insert c.self.inside.nodes.items c.in-Err.place c.args.v w)

pub returns-in_ok-insert-in-Err-clause-new : goal.returns-in_ok-insert-in-Err-clause-new
returns-in_ok-insert-in-Err-clause-new c =
    let new : has c.args.self.now c.args.v ≡ false = ap (λ xs. has xs c.args.v) (sym c.self.view_is) ∙ belongs_new c.self.inside.nodes.items c.in-Err.place c.args.v (belongs_at _ _ _ c.self.invariant (rw c.deref.ensures.value at c.in-Err.ensures.position)) in
    ap not (sym new)

pub returns-in_ok-insert-in-Err-clause-ascending : goal.returns-in_ok-insert-in-Err-clause-ascending
returns-in_ok-insert-in-Err-clause-ascending c = (invariant_of-self-in-Err c).ascending

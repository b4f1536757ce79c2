use Rattle.std.proofs.Common.{arith}
use Rattle.plan_form.proofs.Copying.{nodes_in-next}
use Rattle.plan_form.proofs.copies.copy_paths.Goals as goal

pub add-requires-clause-nodes : goal.add-requires-clause-nodes
add-requires-clause-nodes c =
    let next = rw (← c.loop-path.invariant, ← c.path-item.is, ← c.deref.ensures.value) at (nodes_in-next c.args.paths.now c.loop-path.path-index c.path-item.result c.loop-path-test.true) in
    omega (arith, next, c.requires.nodes)

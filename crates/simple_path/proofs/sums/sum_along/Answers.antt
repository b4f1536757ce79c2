use Rattle.std.proofs.Common.{arith, sym, ap, subst, ◌∙◌}
use Rattle.tomo_base.specs.Walks.{IsWalk, NoneTwice}
use Rattle.tomo_base.specs.Identify as spec
use Rattle.simple_path.proofs.Along.{summed, next_linked, all_summed, first_and_rest}
use Rattle.tomo_base.proofs.Paths.{steps_short}
use Rattle.simple_path.proofs.sums.sum_along.Goals as goal

pub delay_of-sum-requires-clause-linked : goal.delay_of-sum-requires-clause-linked
delay_of-sum-requires-clause-linked c = next_linked c.args.g.now c.args.delays.now _ _ c.loop-node.node-index c.loop-node.from c.loop-node.sum 0 c.loop-node-test.true c.loop-node.invariant

pub overflow_add-sum : goal.overflow_add-sum
overflow_add-sum c =
    let is = first_and_rest c.args.path.now c.in-len1-up.len_at_least in
    let few = steps_short c.args.g.now _ _ c.nodes-nodes.ensures.graph (subst (IsWalk c.args.g.now) is c.requires.walk) (subst NoneTwice is c.requires.different) in
    omega (arith, few, c.nodes-nodes.ensures.few, c.nodes-nodes.ensures.nodes, c.loop-node-test.true, c.loop-node.invariant.small, c.delay_of-sum.ensures.small)

pub loop-node-preserved : goal.loop-node-preserved
loop-node-preserved c = summed c.args.g.now c.args.delays.now _ _ c.loop-node.node-index c.loop-node.from c.loop-node.sum c.delay_of-sum.result 0 c.loop-node-test.true c.delay_of-sum.ensures.delay c.delay_of-sum.ensures.small c.loop-node.invariant

pub returns : goal.returns
returns c =
    all_summed c.args.g.now c.args.delays.now _ _ c.loop-node.node-index c.loop-node.from c.loop-node.sum (omega (arith, c.loop-node-test.false)) c.loop-node.invariant
    ∙ ap (λ p. spec.sum_along c.args.g.now c.args.delays.now p) (sym (first_and_rest c.args.path.now c.in-len1-up.len_at_least))

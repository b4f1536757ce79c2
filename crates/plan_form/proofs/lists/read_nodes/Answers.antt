use Rattle.std.proofs.Common.{decimal}
use Rattle.plan_form.specs.Parts.{IsSmall}
use Rattle.plan_form.specs.Spelling.{space}
use Rattle.plan_form.proofs.Cutting.{first_part}
use Rattle.plan_form.proofs.Items.{read_last, read_not, some_pushed}
use Rattle.plan_form.proofs.Texts.{node_lacks}
use Rattle.plan_form.proofs.lists.read_nodes.Goals as goal

pub returns-in_default : goal.returns-in_default
returns-in_default c nodes is e =
    let first = first_part space c.loop-node.rest.now c.cut.result.0.now c.cut.result.1 c.cut.ensures.last c.cut.ensures.more in
    read_not space decimal IsSmall c.args.text.now c.loop-node.rest.now c.cut.result.0.now c.loop-node.nodes.items c.loop-node.invariant node_lacks first.0 first.1 c.in_default.ensures nodes is.0 is.1 e

pub returns-in-None : goal.returns-in-None
returns-in-None c =
    let last = read_last space decimal IsSmall c.args.text.now c.loop-node.rest.now c.cut.result.0.now c.loop-node.nodes.items c.loop-node.invariant c.in-Some.node (rw c.in-None.is at c.cut.ensures.last) c.in-Some.ensures in
    rw c.in_ok-push.ensures.items ((some_pushed c.loop-node.nodes.items c.in-Some.node, last.0), last.1)

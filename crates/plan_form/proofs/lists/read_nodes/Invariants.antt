use Rattle.std.proofs.Common.{length, decimal}
use Rattle.plan_form.specs.Parts.{IsSmall}
use Rattle.plan_form.specs.Spelling.{space}
use Rattle.plan_form.proofs.Items.{ReadTo}
use Rattle.plan_form.proofs.lists.read_nodes.Given as goal

abbrev pub invariant-loop-node : goal.invariant-loop-node
invariant-loop-node l = ReadTo space decimal IsSmall l.text l.rest l.nodes.items

abbrev pub decreases-loop-node : goal.decreases-loop-node
decreases-loop-node l = length l.rest

use Rattle.std.proofs.Common.{◌<◌, [], length, arith, ap}
use Rattle.tomo_base.specs.Network.{Network}
use Rattle.plan_form.proofs.Numbering.{added_none, added_more}
use Rattle.answers.specs.Growing.{grown_row}
use Rattle.answers.proofs.growing.add_nodes.Goals as goal

pub loop-v-init : goal.loop-v-init
loop-v-init c = added_none (grown_row c.args.t.now) c.args.topology.now.names c.args.rows.now c.requires.none

pub loop-v-preserved : goal.loop-v-preserved
loop-v-preserved c =
    let l : c.loop-v.v < length c.args.topology.now.names = omega (arith, c.loop-v-test.true, c.nodes-v-end.ensures.nodes, ap (λ (g : Network). g.nodes) c.graph.ensures.graph, c.graph.ensures.topology.one_each) in
    added_more (grown_row c.args.t.now) c.args.topology.now.names c.args.rows.now c.loop-v.rows c.add_node.new.rows c.loop-v.v [] l c.loop-v.invariant c.in_ok-add_node.ensures

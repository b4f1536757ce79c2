use Rattle.std.proofs.Common.{◌≡◌, ◌<◌, [], get_or, length, arith, ◌∙◌, sym, ap}
use Rattle.tomo_base.specs.Network.{Network}
use Rattle.std.proofs.lemmas.Option.{get_or_from_slice_get}
use Rattle.plan_form.specs.PlanRows.{node_row}
use Rattle.plan_form.proofs.Numbering.{added_none, added_more}
use Rattle.answers.proofs.components.add_nodes.Goals as goal

pub loop-v-init : goal.loop-v-init
loop-v-init c = added_none node_row c.args.topology.now.names c.args.rows.now c.requires.none

pub loop-v-preserved : goal.loop-v-preserved
loop-v-preserved c =
    let names = c.args.topology.now.names in
    let l : c.loop-v.v < length names = omega (arith, c.loop-v-test.true, c.nodes-v-end.ensures.nodes, ap (λ (g : Network). g.nodes) c.graph.ensures.graph, c.graph.ensures.topology.one_each) in
    let name : get_or names c.loop-v.v [] ≡ c.as_bytes.result.now = get_or_from_slice_get names c.loop-v.v _ [] c.name.ensures.name ∙ sym c.as_bytes.ensures.value in
    added_more node_row names c.args.rows.now c.loop-v.rows c.add_numbered.new.rows c.loop-v.v [] l c.loop-v.invariant (rw name c.in_ok-add_numbered.ensures)

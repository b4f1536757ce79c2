use Rattle.std.proofs.Common.{◌∙◌, [], slice_index_or, sym}
use Rattle.std.proofs.lemmas.Option.{get_or_from_slice_get}
use Rattle.answers.proofs.NodeNames.{named_few, named_more}
use Rattle.answers.proofs.naming.add_names.Goals as goal

pub field-requires : goal.field-requires
field-requires c = named_few c.args.rows.now c.args.topology.now.names c.args.nodes.now c.loop-v.v-index c.loop-v.rows c.loop-v-test.true c.requires.room c.loop-v.invariant

pub loop-v-preserved : goal.loop-v-preserved
loop-v-preserved c =
    named_more c.args.rows.now c.args.topology.now.names c.args.nodes.now c.loop-v.v-index c.loop-v.rows c.field.new.self c.as_bytes.result.now c.loop-v-test.true
    (c.as_bytes.ensures.value ∙ sym (get_or_from_slice_get c.args.topology.now.names (slice_index_or c.args.nodes.now c.loop-v.v-index 0) _ [] c.name.ensures.name)) c.loop-v.invariant c.in_ok-field.ensures.ok

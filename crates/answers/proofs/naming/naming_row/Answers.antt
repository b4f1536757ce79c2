use Rattle.std.proofs.Common.{◌≡◌, ◌≤◌, length, arith}
use Rattle.tomo_base.specs.Limits.{graph_node_limit}
use Rattle.tomo_base.proofs.Ascending.{length-node_set}
use Rattle.answers.proofs.naming.naming_row.Goals as goal

pub add_names-requires-clause-room : goal.add_names-requires-clause-room
add_names-requires-clause-room c =
    let same : c.as_slice.result.now ≡ c.args.nodes.now = c.as_slice.ensures.nodes in
    let few : length c.as_slice.result.now ≤ graph_node_limit = rw same (length-node_set c.args.nodes.now (record { ascending = c.as_slice.ensures.ascending; below = c.as_slice.ensures.below })) in
    rw (c.in_ok-field.ensures.ok, c.new-rows.ensures) (omega (arith, few))

use Rattle.std.proofs.Common.{◌≡◌, ◌≤◌, ◌*◌, length, get_or, arith, refl, ap, subst, map}
use Rattle.tomo_base.specs.Limits.{graph_node_limit}
use Rattle.tomo_base.specs.Network.{Network}
use Rattle.tomo_base.proofs.Ascending.{length-node_set}
use Rattle.rows.specs.Rows.{RowList}
use Rattle.plan_form.specs.PlanRows.{end_row, node_row, numbered}
use Rattle.answers.specs.Components.{Parts, ArePartsOf, cut_row, block_row, three_row}
use Rattle.answers.proofs.ThreeBlocks.{home_of_three_block}
use Rattle.answers.proofs.Telling.{added_four}
use Rattle.answers.proofs.components.tell_components.Goals as goal
use Rattle.answers.proofs.components.tell_components.Goals.{After-as_slice, After-list-3}

pub homes-requires : goal.homes-requires
homes-requires c =
    let sets = c.in_ok-three_blocks.ensures.sets.with_it in
    rw c.list-2.ensures (λ k d l.
    home_of_three_block c.graph-g.result.now c.in_ok-parts.parts.list (get_or c.in_ok-three_blocks.three_blocks k d) c.in_ok-parts.ensures.blocks.with_it (sets.nodes k d l) (sets.each k d l))

-- at first there are no rows, and there are few cut vertices
few_cuts : (c : After-as_slice) → (length c.new-rows.result.closed ≡ 0) × (length c.as_slice.result.now ≤ graph_node_limit)
few_cuts c =
    let few = length-node_set c.cuts.result.now (record { ascending = c.as_slice.ensures.ascending; below = c.as_slice.ensures.below }) in
    (ap (λ (r : RowList). length r.closed) c.new-rows.ensures, rw c.as_slice.ensures.nodes few)

-- there is as much room as for the rows of the nodes, the cut vertices and the blocks
few_rows : (c : After-list-3) → (length c.new-rows.result.closed ≡ 0) × (length c.as_slice.result.now ≤ graph_node_limit)
    → (length c.add_cuts.new.rows.closed ≤ 2 * graph_node_limit) × (length c.list-3.result.now ≤ 2 * graph_node_limit) × (c.args.topology.now.graph.nodes ≤ graph_node_limit)
few_rows c cuts =
    let topo = c.graph-g.ensures.topology in
    let nodes = ap (λ (g : Network). g.nodes) c.graph-g.ensures.graph in (
      omega (arith, cuts.0, cuts.1, topo.one_each, topo.few_nodes, c.in_ok-add_nodes.ensures.1, c.in_ok-add_cuts.ensures.count),
      rw c.list-3.ensures (omega (arith, nodes, topo.few_nodes, c.in_ok-parts.ensures.few)),
      omega (arith, topo.few_nodes),
    )

pub add_cuts-requires-clause-room : goal.add_cuts-requires-clause-room
add_cuts-requires-clause-room c =
    let topo = c.graph-g.ensures.topology in
    let cuts = few_cuts (goal.at.add_cuts-requires-clause-room c).After-as_slice in
    omega (arith, cuts.0, cuts.1, topo.one_each, topo.few_nodes, c.in_ok-add_nodes.ensures.1)

pub add_blocks-requires-clause-room : goal.add_blocks-requires-clause-room
add_blocks-requires-clause-room c =
    let here = goal.at.add_blocks-requires-clause-room c in
    let few = few_rows here.After-list-3 (few_cuts here.After-as_slice) in
    omega (arith, few.0, few.1)

pub add_three_blocks-requires-clause-room : goal.add_three_blocks-requires-clause-room
add_three_blocks-requires-clause-room c =
    let here = goal.at.add_three_blocks-requires-clause-room c in
    let few = few_rows here.After-list-3 (few_cuts here.After-as_slice) in
    let nodes = ap (λ (g : Network). g.nodes) c.graph-g.ensures.graph in
    omega (arith, few.0, few.1, few.2, nodes, c.in_ok-three_blocks.ensures.few, c.in_ok-add_blocks.ensures.1)

pub add_row-requires-clause-room : goal.add_row-requires-clause-room
add_row-requires-clause-room c =
    let here = goal.at.add_row-requires-clause-room c in
    let few = few_rows here.After-list-3 (few_cuts here.After-as_slice) in
    let nodes = ap (λ (g : Network). g.nodes) c.graph-g.ensures.graph in
    omega (arith, few.0, few.1, few.2, nodes, c.in_ok-three_blocks.ensures.few, c.in_ok-add_blocks.ensures.1, c.in_ok-add_three_blocks.ensures.1)

pub returns : goal.returns
returns c =
    let b = c.in_ok-parts.parts in
    let p : Parts = record { cuts = b.cuts; blocks = b.list; three_blocks = c.in_ok-three_blocks.three_blocks; homes = c.in_ok-homes.homes.items } in
    let parts : ArePartsOf c.graph-g.result.now p = record {
      ascending = c.in_ok-parts.ensures.ascending;
      cuts = c.in_ok-parts.ensures.cuts;
      blocks = c.in_ok-parts.ensures.blocks;
      three_blocks = c.in_ok-three_blocks.ensures.sets;
      homes = rw c.list-2.ensures at c.in_ok-homes.ensures;
    } in (
      refl,
      p,
      subst (λ g. ArePartsOf g p) c.graph-g.ensures.graph parts,
      added_four c.new-rows.result c.add_nodes.new.rows c.add_cuts.new.rows c.add_blocks.new.rows c.add_three_blocks.new.rows c.add_row.new.rows
          (numbered node_row 0 c.args.topology.now.names) (map cut_row b.cuts) (numbered block_row 0 b.list) (numbered (three_row p.homes) 0 p.three_blocks) end_row
          c.new-rows.ensures c.in_ok-add_nodes.ensures.0 (rw (c.as_slice.ensures.nodes, c.cuts.ensures) at c.in_ok-add_cuts.ensures.rows) (rw c.list-3.ensures at c.in_ok-add_blocks.ensures.0)
          (rw c.deref.ensures.value at c.in_ok-add_three_blocks.ensures.0) (rw c.as_bytes.ensures.value at c.in_ok-add_row.ensures.rows),
    )

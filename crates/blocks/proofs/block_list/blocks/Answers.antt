use Rattle.std.proofs.Common.{arith}
use Rattle.tomo_base.specs.Blocks.{IsBlock}
use Rattle.blocks.proofs.SameSets.{sets_same, node_sets}
use Rattle.blocks.proofs.block_list.blocks.Goals as goal

pub ordered_sets-requires-clause-sets : goal.ordered_sets-requires-clause-sets
ordered_sets-requires-clause-sets c = node_sets c.args.g.now.nodes _ (omega (arith, c.nodes-nodes.ensures.few, c.nodes-nodes.ensures.nodes)) c.in_ok-work.ensures.blocks.nodes

pub returns-clause-blocks : goal.returns-clause-blocks
returns-clause-blocks c = record {
  with_it = sets_same c.args.g.now.nodes (IsBlock c.args.g.now) _ _ c.in_ok-work.ensures.blocks c.in_ok-list.ensures.same;
  in_order = c.in_ok-list.ensures.ascending;
}

pub ordered_sets-requires-clause-few : goal.ordered_sets-requires-clause-few
ordered_sets-requires-clause-few c = omega (arith, c.in_ok-work.ensures.few, c.nodes-nodes.ensures.few, c.nodes-nodes.ensures.nodes)

pub returns-clause-few : goal.returns-clause-few
returns-clause-few c = omega (arith, c.in_ok-work.ensures.few, c.in_ok-list.ensures.no_more)

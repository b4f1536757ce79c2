use Rattle.mmp_place.proofs.Parts.{three_blocks_of_piece}
use Rattle.mmp_place.proofs.rule.three_blocks_in.Goals as goal

pub returns : goal.returns
returns c =
    three_blocks_of_piece c.three_blocks.result c.args.g.now c.args.block.now _ c.in_ok-tree.tree.node_count c.nodes-nodes.ensures.graph c.in_ok-tree.ensures.nodes c.in_ok-tree.ensures.piece c.three_blocks.ensures.three_blocks

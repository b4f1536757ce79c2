use Rattle.mmp_place.proofs.Parts.{three_blocks_of_piece}
use Rattle.answers.proofs.ThreeBlocks.{few_sets}
use Rattle.answers.proofs.parts.three_blocks_in.Goals as goal

pub returns-clause-sets : goal.returns-clause-sets
returns-clause-sets c =
    three_blocks_of_piece c.three_blocks.result c.args.g.now c.args.block.now _ c.in_ok-tree.tree.node_count c.nodes-nodes.ensures.graph c.in_ok-tree.ensures.nodes c.in_ok-tree.ensures.piece c.three_blocks.ensures.three_blocks

pub returns-clause-few : goal.returns-clause-few
returns-clause-few c = few_sets c.three_blocks.result c.args.g.now c.args.block.now _ c.requires.nodes c.in_ok-tree.ensures.piece c.three_blocks.ensures.few

use Rattle.stpc_paths.proofs.Trees.{parent_below}
use Rattle.stpc_paths.proofs.roots.parent_of.Goals as goal

pub returns-clause-node : goal.returns-clause-node
returns-clause-node c = rw c.parent.ensures (parent_below c.args.t.now.graph _ _ _ c.requires.forest.graph c.requires.forest.trees c.args.tree c.args.v c.requires.tree c.requires.node)

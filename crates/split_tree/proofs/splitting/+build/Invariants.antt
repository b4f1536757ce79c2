use Rattle.std.proofs.Common.{length}
use Rattle.split_tree.proofs.splitting.+build.Given as goal

-- each part has fewer nodes
abbrev pub decreases-build : goal.decreases-build
decreases-build l = length l.piece.nodes

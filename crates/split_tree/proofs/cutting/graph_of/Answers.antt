use Rattle.std.proofs.Common.{◌∙◌, ap}
use Rattle.tomo_base.specs.Table.{in_order}
use Rattle.tomo_base.proofs.Graphs.{no_fault, graph_is}
use Rattle.std.proofs.Common.{map}
use Rattle.split_tree.proofs.cutting.graph_of.Goals as goal

pub unreachable-requires : goal.unreachable-requires
unreachable-requires c = c.in_default.not-NoMemory (no_fault c.args.n c.args.piece.now.links c.in-Err.fault c.requires.stage.is.links (rw c.as_slice.ensures at c.in-Err.ensures.fault))

pub returns-in-Ok : goal.returns-in-Ok
returns-in-Ok c = graph_is c.args.n c.args.piece.now.links c.in-Ok.graph c.requires.stage.is.links c.in-Ok.ensures.nodes (c.in-Ok.ensures.links ∙ ap (map in_order) c.as_slice.ensures)

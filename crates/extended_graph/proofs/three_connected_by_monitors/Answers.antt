use Rattle.extended_graph.proofs.Telling.{three_connected_by_monitors}
use Rattle.extended_graph.proofs.three_connected_by_monitors.Goals as goal

pub returns : goal.returns
returns c = three_connected_by_monitors

use Rattle.std.proofs.Common.{[]}
use Rattle.gate_search.specs.Stops.{IsRoom}
use Rattle.blocks.specs.Working.{Working, weight_of}
use Rattle.blocks.proofs.block_list.cut_up.Given as goal

abbrev pub invariant-loop-part : goal.invariant-loop-part
invariant-loop-part l = record {
  working : Working l.g [] l.work;
  room : IsRoom l.g.nodes l.search.found;
}

abbrev pub decreases-loop-part : goal.decreases-loop-part
decreases-loop-part l = weight_of l.g [] l.work

use Rattle.std.proofs.Common.{take}
use Rattle.tomo_base.specs.Met.{AreMet}
use Rattle.tomo_base.proofs.Meeting.{next_to}
use Rattle.tomo_base.proofs.pocket.outside_met.Given as goal

-- the outside neighbours of the nodes so far are met
abbrev pub invariant-loop-v : goal.invariant-loop-v
invariant-loop-v l = AreMet l.g.nodes (next_to l.g l.p (take l.v-index l.v-items)) l.met

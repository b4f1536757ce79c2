use Rattle.ear_order.proofs.Reaching.{Seeding}
use Rattle.ear_order.proofs.paths.seeds.Given as goal

abbrev pub invariant-loop-hop : goal.invariant-loop-hop
invariant-loop-hop l = Seeding l.g l.zone l.e l.hop-items l.hop-index l.seeds.items

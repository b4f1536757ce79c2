use Rattle.tomo_base.proofs.Planting.{Planting}
use Rattle.tomo_base.proofs.search.plant.Given as goal
use Rattle.tomo_base.proofs.Looking.{state_of}

abbrev pub invariant-loop-seed : goal.invariant-loop-seed
invariant-loop-seed l = Planting l.n l.seeds l.seed-index (state_of l.found)

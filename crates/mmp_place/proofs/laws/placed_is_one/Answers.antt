use Rattle.mmp_place.proofs.Whole.{placed_is_one}
use Rattle.mmp_place.proofs.laws.placed_is_one.Goals as goal

pub returns : goal.returns
returns c = placed_is_one

use Rattle.mmp_place.proofs.Whole.{placed_is_lowest}
use Rattle.mmp_place.proofs.laws.placed_is_lowest.Goals as goal

pub returns : goal.returns
returns c = placed_is_lowest

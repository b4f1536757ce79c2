use Rattle.mmp_place.proofs.Whole.{rule_tells}
use Rattle.mmp_place.proofs.laws.rule_tells.Goals as goal

pub returns : goal.returns
returns c = rule_tells

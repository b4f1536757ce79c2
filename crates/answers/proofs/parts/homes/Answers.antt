use Rattle.std.proofs.Common.{[], arith}
use Rattle.answers.proofs.parts.homes.Goals as goal

pub home_of-requires : goal.home_of-requires
home_of-requires c = rw c.at.ensures (c.requires c.loop-i.i [] (omega (arith, c.loop-i-test.true, c.len-i-end.ensures)))

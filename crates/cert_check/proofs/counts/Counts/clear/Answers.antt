use Rattle.std.proofs.Common.{refl, arith}
use Rattle.cert_check.proofs.Balances.{all_cleared}
use Rattle.cert_check.proofs.counts.Counts.clear.Goals as goal

pub returns : goal.returns
returns c = all_cleared c.args.g.now.links c.args.self.now.touched.items c.loop-i.i c.loop-i.self _ c.loop-i.invariant (omega (arith, c.loop-i-test.false, c.len-i-end.ensures)) refl refl c.clear.ensures.items

use Rattle.std.proofs.Common.{arith, []}
use Rattle.tomo_base.specs.Sets.{has}
use Rattle.mmp_place.proofs.FillingLoop.{fill_more}
use Rattle.mmp_place.proofs.filling.fill_each.Goals as goal

pub fill-requires : goal.fill-requires
fill-requires c = rw c.at.ensures (c.requires c.loop-i.i [] (omega (arith, c.loop-i-test.true, c.len-i-end.ensures))).below

pub loop-i-preserved : goal.loop-i-preserved
loop-i-preserved c =
    fill_more c.args.g.now c.args.sets.now c.loop-i.i c.at.result.now (has c.args.m.now) (has c.loop-i.m) (has c.fill.new.m) (omega (arith, c.loop-i-test.true, c.len-i-end.ensures))
    c.at.ensures c.loop-i.invariant c.in_ok-fill.ensures

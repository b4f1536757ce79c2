use Rattle.std.proofs.Common.{◌<◌, [], arith, length}
use Rattle.tomo_base.specs.Sets.{has}
use Rattle.mmp_place.proofs.Gathering.{fill_large_more, fill_large_past}
use Rattle.mmp_place.proofs.rule.fill_large.Goals as goal
use Rattle.mmp_place.proofs.rule.fill_large.Goals.{then-len-gt-SMALL+in_ok-fill, else-len-gt-SMALL}

pub fill-requires : goal.fill-requires
fill-requires c = rw c.at-set.ensures (c.requires c.loop-i.i [] (omega (arith, c.loop-i-test.true, c.len-i-end.ensures))).below

pub loop-i-preserved : goal.loop-i-preserved
loop-i-preserved c =
    let l : c.loop-i.i < length c.args.sets.now = omega (arith, c.loop-i-test.true, c.len-i-end.ensures) in
    elim c.if-len-gt-SMALL.branch [
      | then-len-gt-SMALL+in_ok-fill s ↦ rw s.m-is (fill_large_more c.args.g.now c.args.sets.now c.loop-i.i c.at-set.result.now (has c.args.m.now) (has c.loop-i.m) (has s.fill.new.m) l c.at-set.ensures
          (omega (arith, s.if-len-gt-SMALL.true, c.len.ensures.len)) c.loop-i.invariant s.in_ok-fill.ensures)
      | else-len-gt-SMALL s ↦ rw s.m-is (fill_large_past c.args.g.now c.args.sets.now c.loop-i.i c.at-set.result.now (has c.args.m.now) (has c.loop-i.m) l c.at-set.ensures
          (omega (arith, s.if-len-gt-SMALL.false, c.len.ensures.len)) c.loop-i.invariant)
    ]

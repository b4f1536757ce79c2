use Rattle.std.proofs.Common.{refl, ◌≡◌, suc, ◌-◌, false, sym, arith}
use Rattle.std.proofs.lemmas.Bool.{both_ways}
use Rattle.tomo_base.proofs.Paths.{walk_from, walk_at, walk_more}
use Rattle.simple_path.proofs.monitor_path.is_walk.Goals as goal

pub returns-then-not-is_link : goal.returns-then-not-is_link
returns-then-not-is_link c =
    let i = c.loop-i.i in
    let whole : suc (i - 1) ≡ i = omega (arith, c.loop-i.auto.i) in
    (λ t. absurd (both_ways false refl t), λ walk. absurd (both_ways _ (sym c.if-not-is_link.ensures) (rw whole at (walk_at c.args.g.now c.args.path.now walk (i - 1) (omega (arith, whole, c.loop-i-test.true))))))

pub loop-i-preserved : goal.loop-i-preserved
loop-i-preserved c = walk_more c.args.g.now c.args.path.now c.loop-i.i c.loop-i.auto.i (sym c.if-not-is_link.ensures) c.loop-i.invariant

pub returns : goal.returns
returns c = (λ t. walk_from c.args.g.now c.args.path.now (λ k l. c.loop-i.invariant k (omega (arith, l, c.loop-i-test.false))), λ walk. refl)

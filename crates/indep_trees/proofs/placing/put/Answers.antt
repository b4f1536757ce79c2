use Rattle.std.proofs.Common.{◌≡◌, ◌+◌, ◌-◌, length, arith, subst}
use Rattle.tomo_base.specs.Search.{entry_at}
use Rattle.indep_trees.specs.Placing.{AreGiven}
use Rattle.indep_trees.proofs.Gifts.{given_none, given_more, once_only}
use Rattle.indep_trees.proofs.placing.put.Goals as goal

pub loop-i-init : goal.loop-i-init
loop-i-init c = (given_none c.args.ear.now _ c.args.low.now.items, given_none c.args.ear.now _ c.args.high.now.items)

pub loop-i-preserved : goal.loop-i-preserved
loop-i-preserved c =
    let ear = c.args.ear.now in
    let i = c.loop-i.i in (
      given_more ear (λ k. entry_at ear k) c.args.low.now.items c.loop-i.low.items i c.loop-i-test.true c.requires.low c.loop-i.invariant.0 (once_only ear (λ k. entry_at ear k) i c.loop-i-test.true c.requires.different),
      given_more ear (λ k. entry_at ear (k + 2)) c.args.high.now.items c.loop-i.high.items i c.loop-i-test.true c.requires.high c.loop-i.invariant.1 (once_only ear (λ k. entry_at ear (k + 2)) i c.loop-i-test.true c.requires.different),
    )

pub returns-clause-low : goal.returns-clause-low
returns-clause-low c =
    let all : c.loop-i.i ≡ length c.args.ear.now - 2 = omega (arith, c.loop-i-test.false, c.loop-i.auto.i-end) in
    subst (λ k. AreGiven c.args.ear.now (λ j. entry_at c.args.ear.now j) c.args.low.now.items k c.loop-i.low.items) all c.loop-i.invariant.0

pub returns-clause-high : goal.returns-clause-high
returns-clause-high c =
    let all : c.loop-i.i ≡ length c.args.ear.now - 2 = omega (arith, c.loop-i-test.false, c.loop-i.auto.i-end) in
    subst (λ k. AreGiven c.args.ear.now (λ j. entry_at c.args.ear.now (j + 2)) c.args.high.now.items k c.loop-i.high.items) all c.loop-i.invariant.1

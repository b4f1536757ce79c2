use Rattle.std.proofs.Common.{refl, arith}
use Rattle.indep_trees.proofs.Gifts.{given_more, given_between}
use Rattle.indep_trees.proofs.placing.fill.Goals as goal

pub loop-i-init : goal.loop-i-init
loop-i-init c = (refl, λ k l. absurd (omega (arith, l)), λ v out. refl)

pub loop-i-preserved : goal.loop-i-preserved
loop-i-preserved c = given_more c.args.ear.now (λ k. c.args.number) c.args.values.now.items c.loop-i.values.items c.loop-i.i c.loop-i-test.true c.requires.nodes c.loop-i.invariant (λ k l same. refl)

pub returns-clause-given : goal.returns-clause-given
returns-clause-given c = given_between c.args.ear.now c.args.number c.args.values.now.items c.loop-i.i c.loop-i.values.items c.loop-i-test.false c.loop-i.invariant

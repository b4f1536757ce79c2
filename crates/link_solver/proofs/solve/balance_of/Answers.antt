use Rattle.std.proofs.Common.{arith}
use Rattle.link_solver.proofs.Filling.{doubled_more, doubled_all}
use Rattle.link_solver.proofs.solve.balance_of.Goals as goal

pub loop-term-preserved : goal.loop-term-preserved
loop-term-preserved c = doubled_more c.args.sums.now c.args.terms.now c.loop-term.term-index c.loop-term.value.gain c.loop-term.value.loss c.plus-value.result.gain c.plus-value.result.loss _ c.loop-term-test.true c.plus-value.ensures.gain c.plus-value.ensures.loss c.plus-value.ensures.small c.loop-term.invariant

pub returns-clause-gain : goal.returns-clause-gain
returns-clause-gain c = (doubled_all c.args.sums.now c.args.terms.now c.loop-term.term-index c.loop-term.value.gain c.loop-term.value.loss (omega (arith, c.loop-term-test.false)) c.loop-term.invariant).0

pub returns-clause-loss : goal.returns-clause-loss
returns-clause-loss c = (doubled_all c.args.sums.now c.args.terms.now c.loop-term.term-index c.loop-term.value.gain c.loop-term.value.loss (omega (arith, c.loop-term-test.false)) c.loop-term.invariant).1

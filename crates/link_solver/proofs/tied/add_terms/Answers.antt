use Rattle.std.proofs.Common.{◌∙◌, refl}
use Rattle.link_solver.proofs.Tallying.{grew_none, grew_next}
use Rattle.link_solver.proofs.tied.add_terms.Goals as goal

pub loop-term-init : goal.loop-term-init
loop-term-init c = (refl, c.requires.count, grew_none c.args.sums.now)

pub loop-term-preserved : goal.loop-term-preserved
loop-term-preserved c = (
  c.add_term.ensures.length ∙ c.loop-term.invariant.0,
  c.in_ok-count.ensures.count,
  grew_next c.args.sums.now c.loop-term.sums c.add_term.new.sums c.args.terms.now c.loop-term.term-index _ c.loop-term-test.true c.loop-term.invariant.2 c.in_ok-count.ensures.sums,
)

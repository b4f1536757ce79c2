use Rattle.std.proofs.Common.{arith}
use Rattle.plan_form.specs.Steps.{number_in}
use Rattle.plan_form.proofs.Tallies.{tallied_none, tallied_more, tallied_room, tallies_ascend}
use Rattle.plan_form.proofs.sums.add_up.Goals as goal

pub loop-term-init : goal.loop-term-init
loop-term-init c = rw c.clear.ensures.items (tallied_none (number_in c.args.numbers.now) c.args.terms.now)

pub add-requires-clause-room : goal.add-requires-clause-room
add-requires-clause-room c = tallied_room _ _ _ _ (omega (arith, c.loop-term-test.true, c.requires.few)) c.loop-term.invariant

pub add-requires-clause-ascending : goal.add-requires-clause-ascending
add-requires-clause-ascending c = tallies_ascend c.loop-term.tallies.items c.loop-term.invariant.sums.ascending

pub loop-term-preserved : goal.loop-term-preserved
loop-term-preserved c =
    tallied_more (number_in c.args.numbers.now) c.args.terms.now c.loop-term.term-index _ c.renumber.result c.loop-term.tallies.items c.add.new.tallies.items c.loop-term-test.true c.renumber.ensures.term c.renumber.ensures.small
    c.in_ok-add.ensures.ascending c.in_ok-add.ensures.sums c.loop-term.invariant

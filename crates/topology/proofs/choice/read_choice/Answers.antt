use Rattle.std.proofs.Common.{arith}
use Rattle.topology.specs.declared.choice.Wish.TheVariants.{Must, Not}
use Rattle.topology.proofs.Choices.{choice_none, choices_are}
use Rattle.topology.proofs.choice.read_choice.Goals as goal

pub loop-place-init : goal.loop-place-init
loop-place-init c = record { so_far = choice_none _ _ c.new.ensures c.new-2.ensures; fine = λ k l. absurd (omega (arith, l)) }

pub returns-clause-choice : goal.returns-clause-choice
returns-clause-choice c =
    choices_are c.args.t.now c.args.rows.now.closed c.loop-place.place c.loop-place.choice (omega (arith, c.loop-place-test.false, c.len-place-end.ensures.len)) c.loop-place.invariant.so_far

pub returns-clause-must_nodes : goal.returns-clause-must_nodes
returns-clause-must_nodes c = (c.loop-place.invariant.so_far.each Must).below

pub returns-clause-not_nodes : goal.returns-clause-not_nodes
returns-clause-not_nodes c = (c.loop-place.invariant.so_far.each Not).below

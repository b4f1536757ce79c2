use Rattle.std.proofs.Common.{arith}
use Rattle.plan_form.proofs.Tallies.{plus_sums, plus_ascends, new_sums, new_ascends, another}
use Rattle.plan_form.proofs.sums.add.Goals as goal
use Rattle.plan_form.proofs.sums.add.Goals.{else-place-len-via-then-place-len+else-index-term, else-place-len-via-else-place-len}

pub returns-then-index-term-clause-ascending : goal.returns-then-index-term-clause-ascending
returns-then-index-term-clause-ascending c =
    plus_ascends c.args.tallies.now.items c.place_of-place.result c.index-then-index-term.result.now c.plus.result c.args.term (omega (arith, c.if-place-len.true, c.len.ensures, c.args.tallies.now.ok.0)) c.index-then-index-term.ensures c.plus.ensures c.requires.ascending

pub returns-then-index-term-clause-sums : goal.returns-then-index-term-clause-sums
returns-then-index-term-clause-sums c = λ k.
    plus_sums c.args.tallies.now.items c.place_of-place.result c.index.result.now c.index-then-index-term.result.now c.plus.result c.args.term k (omega (arith, c.if-place-len.true, c.len.ensures, c.args.tallies.now.ok.0)) c.index.ensures c.if-index-term.true c.index-then-index-term.ensures c.plus.ensures

pub returns-in_ok-insert-clause-ascending : goal.returns-in_ok-insert-clause-ascending
returns-in_ok-insert-clause-ascending c =
    let place = rw c.deref.ensures.value at c.place_of-place.ensures in
    rw c.in_ok-insert.ensures.items
    (new_ascends c.args.tallies.now.items c.place_of-place.result c.tally_of.result c.args.term c.tally_of.ensures place.within c.requires.ascending place.below place.here (elim c.else-place-len.branch [
      | else-place-len-via-then-place-len+else-index-term w ↦ another c.args.tallies.now.items c.place_of-place.result w.index.result.now c.args.term.path w.index.ensures w.if-index-term.false
      | else-place-len-via-else-place-len w ↦ λ l d. absurd (omega (arith, l, w.if-place-len.false, c.len.ensures, c.args.tallies.now.ok.0))
    ]))

pub returns-in_ok-insert-clause-sums : goal.returns-in_ok-insert-clause-sums
returns-in_ok-insert-clause-sums c = λ k. rw c.in_ok-insert.ensures.items (new_sums c.args.tallies.now.items c.place_of-place.result c.tally_of.result c.args.term k c.tally_of.ensures)

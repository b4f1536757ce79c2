use Rattle.std.proofs.Common.{refl, [], ◌∙◌, arith}
use Rattle.std.proofs.lemmas.List.{get_or-map, length-map}
use Rattle.plan_form.specs.Building.{turned}
use Rattle.tomo_base.specs.SetLists.{lists_of}
use Rattle.plan_form.proofs.Sorting.{number_more}
use Rattle.plan_form.proofs.order.number_all.Goals as goal

pub number_of-requires-clause-member : goal.number_of-requires-clause-member
number_of-requires-clause-member c =
    let pool = c.args.pool.now in
    c.requires.members (turned c.path.result.now)
    (c.loop-i.i, omega (arith, c.loop-i-test.true, c.len-i-end.ensures.len, length-map pool turned), get_or-map turned pool c.loop-i.i [] _ (omega (arith, c.loop-i-test.true, c.len-i-end.ensures.len)) ∙ rw c.path.ensures refl)

pub loop-i-preserved : goal.loop-i-preserved
loop-i-preserved c = rw c.in_ok-push.ensures.items (number_more c.args.pool.now (lists_of c.args.paths.now) c.loop-i.numbers.items c.loop-i.i _ (omega (arith, c.loop-i-test.true, c.len-i-end.ensures.len)) c.loop-i.invariant (rw c.path.ensures at c.in_ok-number_of.ensures))

use Rattle.std.proofs.Common.{◌+◌, sym, ap, ◌∙◌, arith}
use Rattle.std.proofs.lemmas.Bool.{both_ways}
use Rattle.std.proofs.lemmas.List.{length_push}
use Rattle.tomo_base.specs.Sets.{has}
use Rattle.indep_trees.proofs.Spots.{later_more}
use Rattle.indep_trees.proofs.counting.all_later.Goals as goal
use Rattle.indep_trees.proofs.counting.all_later.Goals.{then-has, else-has}

pub later-requires-clause-later : goal.later-requires-clause-later
later-requires-clause-later c = c.requires.later c.loop-v.v c.loop-v-test.true (sym c.has.ensures ∙ c.if-has.false)

pub loop-v-preserved : goal.loop-v-preserved
loop-v-preserved c = rw c.in_ok-push.ensures.items (
  length_push c.loop-v.third.items c.if-has.push ∙ ap (λ k. k + 1) c.loop-v.invariant.0,
  later_more c.args.g.now c.args.ears.now (has c.args.m.now) c.loop-v.third.items c.loop-v.v c.if-has.push c.loop-v.invariant.0 c.loop-v.invariant.1
      (λ free. elim c.if-has.branch [
        | then-has w ↦ absurd (both_ways (has c.args.m.now c.loop-v.v) free (sym c.has.ensures ∙ w.if-has.true))
        | else-has w ↦ rw w.push-is (w.later.ensures.link, w.later.ensures.later)
      ]),
)

pub returns-clause-link : goal.returns-clause-link
returns-clause-link c = λ v l f. (c.loop-v.invariant.1 v (omega (arith, l, c.loop-v-test.false)) f).0

pub returns-clause-later : goal.returns-clause-later
returns-clause-later c = λ v l f. (c.loop-v.invariant.1 v (omega (arith, l, c.loop-v-test.false)) f).1

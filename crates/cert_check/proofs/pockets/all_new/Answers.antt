use Rattle.std.proofs.Common.{refl, ◌≡◌, false, get_or, sym, subst, ◌∙◌, arith}
use Rattle.std.proofs.lemmas.Bool.{both_ways}
use Rattle.std.proofs.lemmas.List.{get_or_default}
use Rattle.tomo_base.specs.Sets.{has}
use Rattle.tomo_base.proofs.Ascending.{has-none, has-more}
use Rattle.cert_check.proofs.Places.{one_more, not_true, not_false}
use Rattle.cert_check.proofs.Seen.{still_new, been_there}
use Rattle.cert_check.proofs.pockets.all_new.Goals as goal

pub loop-v-init : goal.loop-v-init
loop-v-init c = (λ j l. absurd (omega (arith, l)), has-none c.args.seen.now)

pub returns-then-not-branch-clause-new : goal.returns-then-not-branch-clause-new
returns-then-not-branch-clause-new c = (λ t. absurd (both_ways false refl t), λ new. absurd (both_ways _ (still_new c.args.nodes.now c.args.seen.now c.loop-v.seen c.loop-v.v-index c.requires.ascending c.loop-v-test.true c.loop-v.invariant.1 (new c.loop-v.v-index 0 c.loop-v-test.true)) (not_false _ (sym c.in_ok-insert.ensures.new ∙ c.if-not-branch.true))))

pub loop-v-preserved : goal.loop-v-preserved
loop-v-preserved c =
    let i = c.loop-v.v-index in
    let fresh : has c.loop-v.seen (get_or c.args.nodes.now i 0) ≡ false = not_true _ (sym c.in_ok-insert.ensures.new ∙ c.if-not-branch.false) in (
      one_more (λ j. has c.args.seen.now (get_or c.args.nodes.now j 0) ≡ false) i c.loop-v.invariant.0 (been_there c.args.nodes.now c.args.seen.now c.loop-v.seen i c.loop-v.invariant.1 fresh),
      λ w. c.in_ok-insert.ensures.nodes w ∙ has-more (has c.loop-v.seen) (has c.args.seen.now) c.args.nodes.now i 0 (get_or c.args.nodes.now i 0) w c.loop-v-test.true refl (c.loop-v.invariant.1 w),
    )

pub returns-clause-new : goal.returns-clause-new
returns-clause-new c = (λ t k d l. subst (λ v. has c.args.seen.now v ≡ false) (get_or_default c.args.nodes.now k 0 d l) (c.loop-v.invariant.0 k (omega (arith, l, c.loop-v-test.false))), λ all. refl)

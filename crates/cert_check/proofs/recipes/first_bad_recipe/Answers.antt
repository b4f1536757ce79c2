use Rattle.std.proofs.Common.{length, ap, arith}
use Rattle.std.proofs.lemmas.Bool.{both_ways}
use Rattle.cert_check.specs.Faults.{IsGoodRecipeAt}
use Rattle.cert_check.proofs.Places.{one_more}
use Rattle.cert_check.proofs.recipes.first_bad_recipe.Goals.{then-links-len, else-links-len}
use Rattle.cert_check.proofs.recipes.first_bad_recipe.Goals as goal

pub returns-then-not-branch-clause-some : goal.returns-then-not-branch-clause-some
returns-then-not-branch-clause-some c =
    let exact = rw (c.terms-terms.ensures.terms, c.at.ensures) at c.in_ok-is_good_recipe.ensures.good in
    (c.loop-i.invariant.0, λ good. both_ways _ c.if-not-branch.true (exact.1 good.good))

pub loop-i-preserved : goal.loop-i-preserved
loop-i-preserved c =
    let exact = rw (c.terms-terms.ensures.terms, c.at.ensures) at c.in_ok-is_good_recipe.ensures.good in (
      one_more (IsGoodRecipeAt c.args.g.now c.args.paths.now c.args.recipes.now) c.loop-i.i c.loop-i.invariant.0 (record {
        is_link = omega (arith, c.loop-i-test.true, c.min-both.ensures, ap (λ xs. length xs) c.links.ensures.links);
        stands = omega (arith, c.loop-i-test.true, c.min-both.ensures, c.len.ensures);
        good = exact.0 c.if-not-branch.false;
      }),
      c.in_ok-is_good_recipe.ensures.bare,
    )

pub returns-clause-some : goal.returns-clause-some
returns-clause-some c = elim c.if-links-len.branch [
  | then-links-len w ↦ rw w.result-is tt
  | else-links-len w ↦ rw w.result-is (
    λ j l. c.loop-i.invariant.0 j (omega (arith, l, c.loop-i-test.false)),
    λ good. w.if-links-len.false (omega (arith, good.is_link, good.stands, c.min-both.ensures, c.len.ensures, c.len-2.ensures, ap (λ xs. length xs) c.links.ensures.links)),
  )
]

pub returns-clause-none : goal.returns-clause-none
returns-clause-none c = elim c.if-links-len.branch [
  | then-links-len w ↦ rw w.result-is (λ j l. c.loop-i.invariant.0 j (omega (arith, l, c.loop-i-test.false, c.min-both.ensures, w.if-links-len.true, c.len.ensures, c.len-2.ensures)))
  | else-links-len w ↦ rw w.result-is tt
]

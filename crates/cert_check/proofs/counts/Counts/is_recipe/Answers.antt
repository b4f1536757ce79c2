use Rattle.std.proofs.Common.{refl, ◌<◌, false, length, All, sym, subst, arith}
use Rattle.std.proofs.lemmas.Bool.{both_ways}
use Rattle.tomo_base.specs.Search.{entry_at}
use Rattle.cert_check.proofs.Balances.{right_at, right_from}
use Rattle.cert_check.proofs.counts.Counts.is_recipe.Goals as goal

pub returns-then-not-is_right : goal.returns-then-not-is_right
returns-then-not-is_right c = λ terms is. (λ t. absurd (both_ways false refl t), λ recipe. absurd (both_ways _ c.if-not-is_right.true (c.is_right.ensures.1 (right_at c.args.g.now.links terms c.args.self.now c.args.i c.args.i c.requires.link is recipe))))

pub returns-then-not-is_right-2 : goal.returns-then-not-is_right-2
returns-then-not-is_right-2 c = λ terms is.
    let k = entry_at c.deref-k-items.result.now c.loop-k.k-index in
    let link : k < length c.args.g.now.links = subst (All (λ k. k < length c.args.g.now.links)) (sym c.deref-k-items.ensures.value) is.has.in_links c.loop-k.k-index 0 c.loop-k-test.true in
    (λ t. absurd (both_ways false refl t), λ recipe. absurd (both_ways _ c.if-not-is_right-2.true (c.is_right-in-loop-k.ensures.1 (right_at c.args.g.now.links terms c.args.self.now c.args.i k link is recipe))))

pub returns : goal.returns
returns c = λ terms is. (λ t. right_from c.args.g.now.links terms c.args.self.now c.args.i is c.loop-k.invariant.0 (λ j l. c.loop-k.invariant.1 j (omega (arith, l, rw c.deref-k-items.ensures.value at c.loop-k-test.false))), λ recipe. refl)

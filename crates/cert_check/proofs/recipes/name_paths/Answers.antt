use Rattle.std.proofs.Common.{refl, pos, false, inl, inr}
use Rattle.std.proofs.lemmas.Bool.{both_ways}
use Rattle.simple_path.specs.declared.recipe.Term.{Term}
use Rattle.cert_check.proofs.Places.{no_names}
use Rattle.cert_check.proofs.recipes.name_paths.Goals.{then-term-least-via-then-term-least, then-term-least-via-else-term-least+then-term-count}
use Rattle.cert_check.proofs.recipes.name_paths.Goals as goal

pub returns-then-term-least : goal.returns-then-term-least
returns-then-term-least c =
    let d : Term = record { coef = pos 0; path = 0 } in (
      λ t. absurd (both_ways false refl t),
      λ good. absurd (no_names c.args.count c.args.terms.now c.loop-term.term-index c.loop-term.least d c.loop-term-test.true c.loop-term.invariant
          (elim c.then-term-least.branch [
            | then-term-least-via-then-term-least w ↦ inl w.if-term-least.true
            | then-term-least-via-else-term-least+then-term-count w ↦ inr (w.if-term-least.false, w.if-term-count.true)
          ])
          good.0 good.1),
    )

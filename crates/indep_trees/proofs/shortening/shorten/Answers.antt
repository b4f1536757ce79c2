use Rattle.std.proofs.Common.{◌≡◌, ◌⊎◌, ◌<◌, ℕ, length, get_or, length-set, subst, ◌∙◌, arith}
use Rattle.std.proofs.lemmas.List.{get_or_read}
use Rattle.tomo_base.specs.Search.{entry_at}
use Rattle.indep_trees.specs.Shortening.{IsLow}
use Rattle.indep_trees.proofs.Choosing.{chosen_more}
use Rattle.indep_trees.proofs.shortening.shorten.Goals.{then-v-numbers+then-not-has, else-v-numbers}
use Rattle.indep_trees.proofs.shortening.shorten.Goals as goal

pub loop-v-preserved : goal.loop-v-preserved
loop-v-preserved c =
    let now = c.loop-v.parents.items in
    let v = get_or c.args.nodes.now c.loop-v.v-index 0 in
    let kind : ℕ → ℕ → Type 0 = IsLow c.args.g.now (entry_at c.args.numbers.now) (entry_at c.args.ears.now) in
    elim c.if-v-numbers.branch [
      | then-v-numbers+then-not-has w ↦
          let best = w.nearest-best.result in
          let below : v < length now = omega (arith, w.if-v-numbers.true, c.requires.parents, c.loop-v.invariant.0) in
          rw (w.parents-is, w.steps-is) (
            length-set now v best ∙ c.loop-v.invariant.0,
            length-set c.loop-v.steps.items v _ ∙ c.loop-v.invariant.1,
            chosen_more kind c.args.parents.now.items now v best below (subst (λ z. (best ≡ z) ⊎ kind v best) (get_or_read now _ _ below w.index.ensures 0) w.nearest-best.ensures) c.loop-v.invariant.2,
          )
      | else-v-numbers w ↦ rw (w.parents-is, w.steps-is) c.loop-v.invariant
    ]

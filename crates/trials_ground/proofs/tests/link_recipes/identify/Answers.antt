use Rattle.std.proofs.Common.{◌≡◌, ◌≤◌, ◌⊎◌, ℕ, Bool, true, refl, sym, subst, ◌∙◌, inl, inr, arith}
use Rattle.std.proofs.lemmas.Bool.{cases_eq, both_ways}
use Rattle.tomo_base.specs.Sets.{has, size, outside}
use Rattle.tomo_base.specs.BadParts.{IsCutOff}
use Rattle.ident_laws.proofs.Boundary.{no_bad_part-from}
use Rattle.cross_links.proofs.Identifying.{no_bad_part_identifies}
use Rattle.trials_ground.proofs.tests.link_recipes.identify.Goals.{else-not-has-via-then-not-has+in_ok-has_fan+else-not-branch, else-not-has-via-else-not-has}
use Rattle.trials_ground.proofs.tests.link_recipes.identify.Goals as goal

pub loop-v-preserved : goal.loop-v-preserved
loop-v-preserved c = λ u l. elim (cases_eq u c.loop-v.v) [
  | inr ne ↦ c.loop-v.invariant u (omega (arith, l, ne))
  | inl same ↦ subst (λ x. (has c.args.m.now x ≡ true) ⊎ ((p : ℕ → Bool) (k : ℕ) → IsCutOff c.args.g.now (has c.args.m.now) x k p → 3 ≤ k)) (sym same) (elim c.else-not-has.branch [
    | else-not-has-via-then-not-has+in_ok-has_fan+else-not-branch w ↦ inr (w.in_ok-has_fan.ensures w.if-not-branch.false)
    | else-not-has-via-else-not-has w ↦ inl (sym c.has.ensures ∙ w.if-not-has.false)
  ])
]

pub returns : goal.returns
returns c = λ yes. no_bad_part_identifies c.args.g.now c.nodes-v-end.ensures.graph (has c.args.m.now) (no_bad_part-from c.args.g.now (has c.args.m.now) (λ q v l h free.
    elim (c.loop-v.invariant v (omega (arith, l, c.loop-v-test.false, c.nodes-v-end.ensures.nodes))) [
      | inl is ↦ absurd (both_ways (has c.args.m.now v) (free v l h) is)
      | inr three ↦ three q (size c.args.g.now (outside c.args.g.now q)) (record { holds = h; free = free; bounded = refl })
    ]))

use Rattle.std.proofs.Common.{refl, false, get_or, sym, ◌∙◌, arith}
use Rattle.std.proofs.lemmas.Bool.{both_ways, eq-eqb, ne_eqb}
use Rattle.tomo_base.specs.Search.{entry_at}
use Rattle.tomo_base.proofs.Paths.{new_more, none_twice_from, none_twice_at}
use Rattle.cert_check.proofs.Turns.{met_none, met_more}
use Rattle.cert_check.proofs.paths.none_twice.Goals as goal

pub loop-v-init : goal.loop-v-init
loop-v-init c = (λ k l. absurd (omega (arith, l)), met_none c.args.path.now c.args.turn c.args.last.now c.requires.earlier)

pub returns-then-last-v-clause-once : goal.returns-then-last-v-clause-once
returns-then-last-v-clause-once c =
    let v = get_or c.args.path.now c.loop-v.v-index 0 in
    (λ t. absurd (both_ways false refl t), λ once. absurd (both_ways _ (none_twice_at c.args.path.now once c.loop-v.v-index c.loop-v-test.true) (sym (c.loop-v.invariant.1.now v) ∙ eq-eqb (entry_at c.loop-v.last v) c.args.turn c.if-last-v.true)))

pub loop-v-preserved : goal.loop-v-preserved
loop-v-preserved c =
    let v = get_or c.args.path.now c.loop-v.v-index 0 in (
      new_more c.args.path.now c.loop-v.v-index (sym (c.loop-v.invariant.1.now v) ∙ ne_eqb (entry_at c.loop-v.last v) c.args.turn c.if-last-v.false) c.loop-v.invariant.0,
      met_more _ c.args.path.now c.loop-v.v-index c.args.turn c.loop-v.last c.loop-v-test.true (c.requires.nodes c.loop-v.v-index 0 c.loop-v-test.true) c.loop-v.invariant.1,
    )

pub returns-clause-once : goal.returns-clause-once
returns-clause-once c = (λ t. none_twice_from c.args.path.now (λ k l. c.loop-v.invariant.0 k (omega (arith, l, c.loop-v-test.false))), λ once. refl)

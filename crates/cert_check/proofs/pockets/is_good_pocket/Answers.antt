use Rattle.std.proofs.Common.{◌≡◌, ◌<◌, sym, ◌∙◌, arith, All}
use Rattle.std.proofs.lemmas.Bool.{eqb-true, eq-eqb, ltb-true}
use Rattle.tomo_base.specs.Sets.{has}
use Rattle.tomo_base.specs.Pockets.{need_of}
use Rattle.cert_check.proofs.Places.{ascending_from, none_some}
use Rattle.cert_check.proofs.Seen.{need_few, few_need}
use Rattle.cert_check.proofs.pockets.is_good_pocket.Goals as goal
use Rattle.cert_check.proofs.pockets.is_good_pocket.Goals.{then-need-gt0, else-need-gt0}

pub returns : goal.returns
returns c =
    let g = c.args.g.now in
    let nodes = c.args.nodes.now in
    let ascends = ascending_from c.nodes.result nodes (none_some c.first_not_ascending.result _ (sym c.is_some.ensures ∙ c.if-is_some.false) c.first_not_ascending.ensures.none) in
    let below : All (λ v. v < g.nodes) nodes = rw c.nodes.ensures.nodes at ascends.0 in
    let needs : c.need-need.result ≡ need_of g (has nodes) = rw c.in_ok-pocket.ensures at c.need-need.ensures in
    elim c.if-need-gt0.branch [
      | then-need-gt0 w ↦ (
        λ t. record {
          nodes = below;
          ascending = ascends.1;
          few = need_few g nodes (omega (arith, needs, w.if-need-gt0.true));
          need = sym (eqb-true c.need-need.result c.args.need_given (sym w.result-is ∙ t)) ∙ needs;
        },
        λ good. w.result-is ∙ eq-eqb c.need-need.result c.args.need_given (needs ∙ sym good.need),
      )
      | else-need-gt0 w ↦ (
        λ t. absurd (omega (arith, w.if-need-gt0.false, ltb-true 0 c.need-need.result (sym w.result-is ∙ t))),
        λ good. absurd (omega (arith, few_need g nodes ascends.1 below c.requires good.few, needs, w.if-need-gt0.false)),
      )
    ]

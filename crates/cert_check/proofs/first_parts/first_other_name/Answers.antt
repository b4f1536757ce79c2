use Rattle.std.proofs.Common.{◌≡◌, [], length, sym, ◌∙◌, arith}
use lib.Pointwise.{bytes_decides}
use Rattle.std.proofs.lemmas.Bool.{both_ways}
use Rattle.cert_check.specs.Faults.{AgreeAt}
use Rattle.cert_check.proofs.Places.{same_items, ends_apart, one_more, agree_here, not_true, not_false}
use Rattle.cert_check.proofs.first_parts.first_other_name.Goals as goal

pub returns-then-ne-clause-some : goal.returns-then-ne-clause-some
returns-then-ne-clause-some c =
    let agree = agree_here c.args.names.now c.args.t.now.names c.loop-v.v [] c.at.result.now c.name.result.now (omega (arith, c.loop-v-test.true, c.min-both.ensures, c.len-count.ensures.len)) c.at.ensures c.name.ensures.name in
    (c.loop-v.invariant, λ same. both_ways _ (not_true _ (sym c.ne.ensures ∙ c.if-ne.true)) ((bytes_decides _ _).1 (agree.0 same)))

pub loop-v-preserved : goal.loop-v-preserved
loop-v-preserved c =
    let agree = agree_here c.args.names.now c.args.t.now.names c.loop-v.v [] c.at.result.now c.name.result.now (omega (arith, c.loop-v-test.true, c.min-both.ensures, c.len-count.ensures.len)) c.at.ensures c.name.ensures.name in
    one_more (AgreeAt c.args.names.now c.args.t.now.names) c.loop-v.v c.loop-v.invariant (agree.1 ((bytes_decides _ _).0 (not_false _ (sym c.ne.ensures ∙ c.if-ne.false))))

pub returns-then-given-count-clause-none : goal.returns-then-given-count-clause-none
returns-then-given-count-clause-none c =
    let nodes : c.nodes-given.result ≡ length c.args.t.now.names = rw c.graph.ensures.graph at c.nodes-given.ensures.nodes ∙ sym c.graph.ensures.topology.one_each in
    same_items c.args.names.now c.args.t.now.names (omega (arith, nodes, c.len-count.ensures.len, c.if-given-count.true))
    (λ j l. c.loop-v.invariant j (omega (arith, l, c.loop-v-test.false, c.min-both.ensures, c.len-count.ensures.len, c.if-given-count.true)))

pub returns-else-given-count-clause-some : goal.returns-else-given-count-clause-some
returns-else-given-count-clause-some c =
    let nodes : c.nodes-given.result ≡ length c.args.t.now.names = rw c.graph.ensures.graph at c.nodes-given.ensures.nodes ∙ sym c.graph.ensures.topology.one_each in (
      λ j l. c.loop-v.invariant j (omega (arith, l, c.loop-v-test.false)),
      ends_apart c.args.names.now c.args.t.now.names c.min-both.result (omega (arith, c.min-both.ensures, c.len-count.ensures.len, nodes)) (λ same. c.if-given-count.false (omega (arith, same, nodes, c.len-count.ensures.len))),
    )

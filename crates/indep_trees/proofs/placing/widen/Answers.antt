use Rattle.std.proofs.Common.{◌≡◌, ◌++◌, ◌+◌, ◌-◌, take, drop, length, sym, ap, ◌∙◌, arith}
use Rattle.std.specs.List.{insert}
use Rattle.std.proofs.lemmas.List.{get_or_default}
use Rattle.tomo_base.specs.Search.{entry_at}
use Rattle.indep_trees.proofs.Widening.{none_put, one_put}
use Rattle.indep_trees.proofs.placing.widen.Goals as goal

pub loop-i-init : goal.loop-i-init
loop-i-init c = none_put c.args.order.now.items c.args.faced.now.ear.items (c.args.faced.now.place + 1)

pub loop-i-preserved : goal.loop-i-preserved
loop-i-preserved c =
    let ear = c.args.faced.now.ear.items in
    let behind = c.args.faced.now.place + 1 in
    let i = c.loop-i.i in
    let node : c.index.result.now ≡ entry_at ear (i + 1) = c.index.ensures ∙ sym (get_or_default ear (i + 1) 0 _ (omega (arith, c.loop-i-test.true))) in
    c.in_ok-insert.ensures.items ∙ (ap (λ x. insert c.loop-i.order.items (behind + i) x) node ∙ (ap (λ xs. insert xs (behind + i) (entry_at ear (i + 1))) c.loop-i.invariant
    ∙ one_put c.args.order.now.items ear behind i (omega (arith, c.requires.place)) (omega (arith, c.loop-i-test.true, c.len-i-end.ensures))))

pub returns : goal.returns
returns c =
    let order = c.args.order.now.items in
    let ear = c.args.faced.now.ear.items in
    let behind = c.args.faced.now.place + 1 in
    let all : c.loop-i.i ≡ length ear - 2 = omega (arith, c.loop-i-test.false, c.loop-i.auto.i-end, c.len-i-end.ensures) in
    (c.args.faced.now.place, c.requires.place, c.requires.first, c.loop-i.invariant ∙ ap (λ k. (take behind order ++ take k (drop 1 ear)) ++ drop behind order) all)

use Rattle.std.proofs.Common.{◌≡◌, length, refl, take_all, subst, sym, ap, ◌∙◌, arith, length-set, get_or, nat_lt, true, false}
use Rattle.std.specs.List.{filter}
use Rattle.std.proofs.lemmas.Bool.{lt-ltb, false_from_ne_true, ltb-true}
use Rattle.std.proofs.lemmas.List.{length-replicate}
use Rattle.indep_trees.specs.Placing.{In}
use Rattle.indep_trees.specs.Numbers.{spot}
use Rattle.indep_trees.proofs.Spots.{next_small, next_more, number_more, number_skip, filter_skip}
use Rattle.indep_trees.proofs.counting.numbered.Goals as goal
use Rattle.indep_trees.proofs.counting.numbered.Goals.{then-v-n, else-v-n}

pub loop-v-init : goal.loop-v-init
loop-v-init c = (ap length (c.in_ok-numbers.ensures.items_if_clones_equal (λ y h. h)) ∙ length-replicate c.args.n 0, refl, λ v l h. absurd h)

pub overflow_add-next : goal.overflow_add-next
overflow_add-next c = omega (arith, c.loop-v.invariant.1, next_small c.args.n c.args.order.now c.loop-v.v-index c.loop-v-test.true, c.loop-v-test.true, c.requires.few)

pub loop-v-preserved : goal.loop-v-preserved
loop-v-preserved c = elim c.if-v-n.branch [
  | then-v-n w ↦
      let on : nat_lt (get_or c.args.order.now c.loop-v.v-index 0) c.args.n ≡ true = lt-ltb _ _ w.if-v-n.true in
      rw (w.numbers-is, w.next-is) (
        length-set c.loop-v.numbers.items (get_or c.args.order.now c.loop-v.v-index 0) c.loop-v.next ∙ c.loop-v.invariant.0,
        next_more c.args.n c.args.order.now c.loop-v.v-index c.loop-v.next c.loop-v-test.true on c.loop-v.invariant.1,
        number_more c.args.n c.args.order.now c.loop-v.numbers.items c.loop-v.v-index c.loop-v.next c.requires.different c.loop-v-test.true on c.loop-v.invariant.0 c.loop-v.invariant.1 c.loop-v.invariant.2,
      )
  | else-v-n w ↦
      let off : nat_lt (get_or c.args.order.now c.loop-v.v-index 0) c.args.n ≡ false = false_from_ne_true _ (λ y. omega (arith, ltb-true _ _ y, w.if-v-n.false)) in
      rw (w.numbers-is, w.next-is) (
        c.loop-v.invariant.0,
        c.loop-v.invariant.1 ∙ ap length (sym (filter_skip c.args.n c.args.order.now c.loop-v.v-index 0 c.loop-v-test.true off)),
        number_skip c.args.n c.args.order.now c.loop-v.numbers.items c.loop-v.v-index 0 c.loop-v-test.true off c.loop-v.invariant.2,
      )
]

pub returns-clause-numbers : goal.returns-clause-numbers
returns-clause-numbers c = λ v l h.
    let all = take_all c.loop-v.v-index c.args.order.now c.loop-v-test.false in
    c.loop-v.invariant.2 v l (subst (In v) (sym all) h) ∙ ap (λ z. spot v (filter (λ w. nat_lt w c.args.n) z)) all

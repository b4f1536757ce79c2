use Rattle.std.proofs.Common.{◌≡◌, ◌+◌, ◌<◌, ap, arith, sym, length, get_or, take, subst}
use Rattle.tomo_base.specs.Sets.{has}
use Rattle.mmp_place.specs.Rule.{counting}
use Rattle.mmp_place.proofs.Prefixes.{prefix_count_none}
use Rattle.mmp_place.proofs.FillingLoop.{counted_more, counted_within, counted_all}
use Rattle.mmp_place.proofs.filling.how_many_count.Goals as goal
use Rattle.mmp_place.proofs.filling.how_many_count.Goals.{then-counts+else-counted-eq3, else-counts}

pub loop-v-init : goal.loop-v-init
loop-v-init c = (sym (prefix_count_none c.args.g.now.nodes c.args.set.now (counting c.args.g.now (has c.args.set.now) (has c.args.m.now))), omega arith)

pub overflow_add-counted : goal.overflow_add-counted
overflow_add-counted c = omega (arith, c.loop-v.invariant.1)

pub loop-v-preserved : goal.loop-v-preserved
loop-v-preserved c =
    let g = c.args.g.now in
    let xs = c.args.set.now in
    let i = c.loop-v.v-index in
    let items = c.as_slice-v-items.result.now in
    let same : items ≡ xs = c.as_slice-v-items.ensures.nodes in
    let more = counted_more g xs (has c.args.m.now) i c.loop-v.counted (get_or items i 0) c.counts.result c.as_slice-v-items.ensures.ascending c.requires
    (subst (λ ys. i < length ys) same c.loop-v-test.true) (ap (λ ys. get_or ys i 0) same) c.counts.ensures c.loop-v.invariant.0 in
    elim c.if-counts.branch [
      | then-counts+else-counted-eq3 w ↦ rw w.counted-is (rw w.if-counts.true at more, omega (arith, c.loop-v.invariant.1, w.if-counted-eq3.false))
      | else-counts w ↦ rw w.counted-is (omega (arith, rw w.if-counts.false at more), c.loop-v.invariant.1)
    ]

pub returns-then-counted-eq3 : goal.returns-then-counted-eq3
returns-then-counted-eq3 c =
    let g = c.args.g.now in
    let xs = c.args.set.now in
    let i = c.loop-v.v-index in
    let items = c.as_slice-v-items.result.now in
    let same : items ≡ xs = c.as_slice-v-items.ensures.nodes in
    let more = counted_more g xs (has c.args.m.now) i c.loop-v.counted (get_or items i 0) c.counts.result c.as_slice-v-items.ensures.ascending c.requires
    (subst (λ ys. i < length ys) same c.loop-v-test.true) (ap (λ ys. get_or ys i 0) same) c.counts.ensures c.loop-v.invariant.0 in
    omega (arith, rw c.if-counts.true at more, counted_within g xs (has c.args.m.now) (i + 1), c.if-counted-eq3.true)

pub returns : goal.returns
returns c =
    let same : length c.as_slice-v-items.result.now ≡ length c.args.set.now = ap (λ ys. length ys) c.as_slice-v-items.ensures.nodes in
    omega (arith, counted_all c.args.g.now c.args.set.now (has c.args.m.now) c.loop-v.v-index c.loop-v.counted (omega (arith, same, c.loop-v-test.false)) c.loop-v.invariant.0, c.loop-v.invariant.1)

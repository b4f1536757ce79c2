use Rattle.std.proofs.Common.{◌≡◌, ◌<◌, ap, sym, ◌∙◌, arith, length, get_or, subst}
use Rattle.tomo_base.specs.Sets.{has}
use Rattle.mmp_place.proofs.FillingLoop.{filled_as_is, filled_to_none, filled_enough, filled_counting, filled_more}
use Rattle.mmp_place.proofs.filling.fill.Goals as goal
use Rattle.mmp_place.proofs.filling.fill.Goals.{then-counted-lt3+then-not-counts+in_ok-insert, else-counted-lt3, else-counted-lt3-via-then-counted-lt3+else-not-counts, else-counted-lt3-via-else-counted-lt3}

pub loop-v-init : goal.loop-v-init
loop-v-init c = filled_to_none c.args.g.now c.args.set.now (has c.args.m.now) c.as_slice-v-items.ensures.ascending c.requires c.how_many_count-counted.result (omega (arith, c.how_many_count-counted.ensures, c.if-counted-eq3.false))

pub returns-then-counted-eq3 : goal.returns-then-counted-eq3
returns-then-counted-eq3 c v = filled_as_is c.args.g.now c.args.set.now (has c.args.m.now) v (omega (arith, c.how_many_count-counted.ensures, c.if-counted-eq3.true))

pub loop-v-preserved : goal.loop-v-preserved
loop-v-preserved c =
    let g = c.args.g.now in
    let xs = c.args.set.now in
    let m = has c.args.m.now in
    let i = c.loop-v.v-index in
    let items = c.as_slice-v-items.result.now in
    let same : items ≡ xs = c.as_slice-v-items.ensures.nodes in
    let up = c.as_slice-v-items.ensures.ascending in
    let l : i < length xs = subst (λ ys. i < length ys) same c.loop-v-test.true in
    let at : get_or items i 0 ≡ get_or xs i 0 = ap (λ ys. get_or ys i 0) same in
    elim c.if-counted-lt3.branch [
      | then-counted-lt3+then-not-counts+in_ok-insert w ↦ rw (w.m-is, w.counted-is) (filled_more g xs m up c.requires i (has c.loop-v.m) c.loop-v.counted l c.loop-v.invariant (get_or items i 0) at (has w.insert.new.self)
          w.if-counted-lt3.true (sym w.counts.ensures ∙ w.if-not-counts.true) w.in_ok-insert.ensures.nodes)
      | else-counted-lt3 w ↦ rw (w.m-is, w.counted-is) (elim w.else-counted-lt3.branch [
        | else-counted-lt3-via-then-counted-lt3+else-not-counts v ↦ filled_counting g xs m up c.requires i (has c.loop-v.m) c.loop-v.counted l c.loop-v.invariant (get_or items i 0) at (sym v.counts.ensures ∙ v.if-not-counts.false)
        | else-counted-lt3-via-else-counted-lt3 v ↦ filled_enough g xs m up c.requires i (has c.loop-v.m) c.loop-v.counted l c.loop-v.invariant (get_or items i 0) at v.if-counted-lt3.false
      ])
    ]

use Rattle.std.proofs.Common.{◌<◌, length, get_or, arith}
use Rattle.cert_check.proofs.Uses.{counted_none, counted_more, count_fits, get_same}
use Rattle.cert_check.proofs.counts.count_steps.Goals as goal

pub loop-link-init : goal.loop-link-init
loop-link-init c = counted_none c.args.steps.now c.args.weight c.args.counts.now.items c.args.touched.now.items

pub overflow_add-index_mut : goal.overflow_add-index_mut
overflow_add-index_mut c =
    let there : get_or c.args.steps.now c.loop-link.link-index 0 < length c.loop-link.counts.items = omega (arith, c.requires.within c.loop-link.link-index 0 c.loop-link-test.true, c.loop-link.invariant.size) in
    let read = get_same c.loop-link.counts.items _ _ _ there c.index_mut.ensures.value in
    omega (arith, read, count_fits c.args.steps.now c.loop-link.link-index c.args.weight _ _ _ _ c.loop-link-test.true c.requires.light (c.requires.room _) c.loop-link.invariant)

pub loop-link-preserved : goal.loop-link-preserved
loop-link-preserved c =
    let there : get_or c.args.steps.now c.loop-link.link-index 0 < length c.loop-link.counts.items = omega (arith, c.requires.within c.loop-link.link-index 0 c.loop-link-test.true, c.loop-link.invariant.size) in
    let read = get_same c.loop-link.counts.items _ _ _ there c.index_mut.ensures.value in
    rw (read, c.in_ok-push.ensures.items) (counted_more c.args.steps.now c.loop-link.link-index c.args.weight _ _ _ _ c.loop-link-test.true c.requires.within c.loop-link.invariant)

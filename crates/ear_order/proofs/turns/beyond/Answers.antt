use Rattle.std.proofs.Common.{◌≡◌, refl}
use Rattle.tomo_base.specs.Search.{mark_of}
use Rattle.ear_order.proofs.Turning.{beyond_none, beyond_more}
use Rattle.ear_order.proofs.turns.beyond.Goals as goal

pub loop-v-init : goal.loop-v-init
loop-v-init c =
    let same : c.in_ok-others.others.items ≡ c.args.rest.now = c.in_ok-others.ensures.items_if_clones_equal (λ y h e. e) in
    rw same (c.requires.marks, beyond_none c.args.g.now (mark_of c.args.rest.now))

pub loop-v-preserved : goal.loop-v-preserved
loop-v-preserved c = (
  c.clear_near.ensures.size,
  beyond_more c.args.g.now (mark_of c.args.rest.now) (mark_of c.loop-v.others.items) (mark_of c.clear_near.new.marks.items) c.deref-v-items.result.now c.loop-v.v-index 0 _
      c.loop-v-test.true refl c.loop-v.invariant.1 c.clear_near.ensures.cleared,
)

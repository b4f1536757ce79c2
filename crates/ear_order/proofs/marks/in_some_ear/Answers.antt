use Rattle.std.proofs.Common.{◌≡◌, ◌<◌, false, length, replicate, All, sym, subst, ap, ◌∙◌}
use Rattle.std.proofs.lemmas.List.{length-replicate}
use Rattle.tomo_base.specs.Search.{mark_of}
use Rattle.tomo_base.proofs.Marks.{bare_mark}
use Rattle.ear_order.proofs.InEars.{item_of, marks_ear, marks_no_ear}
use Rattle.ear_order.proofs.marks.in_some_ear.Goals as goal

pub loop-ear-init : goal.loop-ear-init
loop-ear-init c =
    let bare : c.in_ok-marks.marks.items ≡ replicate c.args.n false = c.in_ok-marks.ensures.items_if_clones_equal (λ y h. h) in
    (ap length bare ∙ length-replicate c.args.n false, λ v. ap (λ xs. mark_of xs v) bare ∙ (bare_mark c.args.n v ∙ sym (marks_no_ear v)))

pub mark-requires : goal.mark-requires
mark-requires c =
    let below : All (λ v. v < c.args.n) c.ear-item.result.items = item_of (λ e. All (λ v. v < c.args.n) e) c.args.ears.now c.loop-ear.ear-index c.ear-item.result c.requires c.loop-ear-test.true c.ear-item.is in
    subst (λ n. All (λ v. v < n) c.deref.result.now) (sym c.loop-ear.invariant.0) (subst (All (λ v. v < c.args.n)) (sym c.deref.ensures.value) below)

pub loop-ear-preserved : goal.loop-ear-preserved
loop-ear-preserved c = (
  c.mark.ensures.size ∙ c.loop-ear.invariant.0,
  λ v. marks_ear c.args.ears.now c.loop-ear.ear-index c.ear-item.result c.deref.result.now c.loop-ear.marks.items c.mark.new.marks.items v c.loop-ear-test.true c.ear-item.is c.deref.ensures.value
      (c.loop-ear.invariant.1 v) (c.mark.ensures.marks v),
)

use Rattle.std.proofs.Common.{[], ℕ, true, ◌||◌, ◌==◌, ◌+◌, ◌≡◌, ◌<◌, ◌∙◌, ap, subst, length, get_or, take, replicate, false, refl, sym, arith, length-set, slice_index, All}
use Rattle.std.proofs.lemmas.List.{length-replicate}
use Rattle.tomo_base.specs.Sets.{has}
use Rattle.pocket_bound.proofs.Joining.{has_next, AreMet, met_none, met_more, met_same}
use Rattle.pocket_bound.proofs.labelling.met_labels.Goals as goal
use Rattle.pocket_bound.proofs.labelling.met_labels.Goals.{then-label-gt0, else-label-gt0}

pub loop-v-init : goal.loop-v-init
unfolding has
loop-v-init c =
    let bare : c.in_ok-met.met.items ≡ replicate c.args.count false = c.in_ok-met.ensures.items_if_clones_equal (λ y h. h) in
    record {
      size = ap (λ z. length z) bare ∙ length-replicate c.args.count false;
      marked = subst (AreMet (length c.args.labels.now) (slice_index c.args.labels.now) (has [])) (sym bare) (met_none (length c.args.labels.now) c.args.count (slice_index c.args.labels.now) (has []) (λ v. refl));
    }

pub loop-v-preserved : goal.loop-v-preserved
loop-v-preserved c =
    let xs = c.as_slice-v-items.result.now in
    let i = c.loop-v.v-index in
    let v = get_or xs i 0 in
    let labels = c.args.labels.now in
    let same : xs ≡ c.args.home.now = c.as_slice-v-items.ensures.nodes in
    let below : v < length labels = subst (All (λ w. w < length labels)) (sym same) c.requires.nodes i 0 c.loop-v-test.true in
    let next : (w : ℕ) → has (take (i + 1) xs) w ≡ ((v == w) || has (take i xs) w) = λ w. has_next xs i 0 w c.loop-v-test.true in
    let room : get_or labels v 0 < length c.loop-v.met.items = omega (arith, c.requires.below v 0 below, c.loop-v.invariant.size) in
    elim c.if-label-gt0.branch [
      | then-label-gt0 w ↦ rw w.met-is (record {
        size = length-set c.loop-v.met.items (get_or labels v 0) true ∙ c.loop-v.invariant.size;
        marked = met_more (length labels) (slice_index labels) (has (take i xs)) (has (take (i + 1) xs)) v below next c.loop-v.met.items c.loop-v.invariant.marked w.if-label-gt0.true room;
      })
      | else-label-gt0 w ↦ rw w.met-is (record {
        size = c.loop-v.invariant.size;
        marked = met_same (length labels) (slice_index labels) (has (take i xs)) (has (take (i + 1) xs)) v below next c.loop-v.met.items c.loop-v.invariant.marked (omega (arith, w.if-label-gt0.false));
      })
    ]

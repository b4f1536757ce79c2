use Rattle.std.proofs.Common.{◌≡◌, ◌++◌, false, replicate, length, take, drop, All, ◌<◌, sym, ap, subst, ◌∙◌, arith}
use Rattle.std.proofs.lemmas.List.{length-replicate}
use Rattle.tomo_base.specs.Search.{mark_of}
use Rattle.tomo_base.specs.Sets.{has}
use Rattle.tomo_base.proofs.Lists.{lent_back}
use Rattle.tomo_base.proofs.Marks.{bare_mark}
use Rattle.unit_flow.proofs.Marking.{marks_only}
use Rattle.unit_flow.proofs.marks.marks.Goals as goal

pub mark-requires : goal.mark-requires
mark-requires c =
    let bare : c.in_ok-marks.marks.items ≡ replicate c.args.count false = c.in_ok-marks.ensures.items_if_clones_equal (λ y h. h) in
    let lent : c.deref_mut.result.now ≡ c.in_ok-marks.marks.items = c.deref_mut.ensures.value in
    let size : length c.deref_mut.result.now ≡ c.args.count = ap length (lent ∙ bare) ∙ length-replicate c.args.count false in
    subst (λ n. All (λ v. v < n) c.as_slice.result.now) (sym size) (subst (All (λ v. v < c.args.count)) (sym c.as_slice.ensures.nodes) c.requires)

-- what the vector holds after its slice was lent
whole : (c : goal.After-marks-3-1) → (take c.in_ok-marks.marks.len (c.mark.new.marks ++ drop (length c.mark.new.marks) c.in_ok-marks.marks.items) ≡ c.mark.new.marks)
whole c =
    let lent : c.deref_mut.result.now ≡ c.in_ok-marks.marks.items = c.deref_mut.ensures.value in
    let size : length c.mark.new.marks ≡ length c.in_ok-marks.marks.items = c.mark.ensures.size ∙ ap length lent in
    lent_back c.in_ok-marks.marks.len c.mark.new.marks c.in_ok-marks.marks.items (omega (arith, size, c.in_ok-marks.marks.ok))

pub returns-clause-size : goal.returns-clause-size
returns-clause-size c =
    let bare : c.in_ok-marks.marks.items ≡ replicate c.args.count false = c.in_ok-marks.ensures.items_if_clones_equal (λ y h. h) in
    let lent : c.deref_mut.result.now ≡ c.in_ok-marks.marks.items = c.deref_mut.ensures.value in
    ap length (whole c) ∙ c.mark.ensures.size ∙ ap length (lent ∙ bare) ∙ length-replicate c.args.count false

pub returns-clause-marks : goal.returns-clause-marks
returns-clause-marks c = λ v.
    let bare : c.in_ok-marks.marks.items ≡ replicate c.args.count false = c.in_ok-marks.ensures.items_if_clones_equal (λ y h. h) in
    let lent : c.deref_mut.result.now ≡ c.in_ok-marks.marks.items = c.deref_mut.ensures.value in
    ap (λ z. mark_of z v) (whole c)
    ∙ marks_only c.mark.new.marks c.deref_mut.result.now c.as_slice.result.now v (ap (λ z. mark_of z v) (lent ∙ bare) ∙ bare_mark c.args.count v) (c.mark.ensures.marks v)
    ∙ ap (λ xs. has xs v) c.as_slice.ensures.nodes

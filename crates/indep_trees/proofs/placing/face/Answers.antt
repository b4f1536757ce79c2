use Rattle.std.proofs.Common.{◌≡◌, ◌-◌, length, reverse, sym, ap, ◌∙◌, inl, inr, arith}
use Rattle.tomo_base.specs.Search.{entry_at}
use Rattle.ear_order.proofs.Turned.{entry_reverse}
use Rattle.indep_trees.proofs.Ears.{stands_first, turned_before}
use Rattle.indep_trees.proofs.placing.face.Goals as goal
use Rattle.indep_trees.proofs.placing.face.Goals.{then-order-place, else-order-place}

pub returns-clause-before : goal.returns-clause-before
returns-clause-before c =
    let order = c.args.order.now in
    let ear = c.args.ear.now in
    let first = entry_at ear 0 in
    let last = entry_at ear (length ear - 1) in
    let place = c.first_place-place.result in
    let copied = c.in_ok-turned.ensures.items_if_clones_equal (λ x y h. h) in
    let none = c.first_place-place.ensures.first in
    elim c.if-order-place.branch [
      | then-order-place w ↦
          let at : entry_at order place ≡ last = elim c.first_place-place.ensures.place [ inl is_first ↦ absurd (w.if-order-place.true is_first) | inr is_last ↦ is_last ] in
          turned_before order ear c.if-order-place.turned.items c.requires.some (rw w.turned-is (w.reverse.ensures.items ∙ ap reverse copied))
          (stands_first order place last first at (λ same. c.requires.differ (sym same)) (λ k l. (none k l).0) c.requires.first)
      | else-order-place w ↦ rw (w.turned-is, copied) (stands_first order place first last w.if-order-place.false c.requires.differ (λ k l. (none k l).1) c.requires.last)
    ]

pub returns-clause-place : goal.returns-clause-place
returns-clause-place c =
    let ear = c.args.ear.now in
    let place = c.first_place-place.result in
    let copied = c.in_ok-turned.ensures.items_if_clones_equal (λ x y h. h) in (
      c.first_place-place.ensures.below,
      elim c.if-order-place.branch [
        | then-order-place w ↦
            let none : length ear - 1 - 0 ≡ length ear - 1 = omega arith in
            let first_reversed : entry_at ear (length ear - 1) ≡ entry_at (reverse ear) 0 = sym (entry_reverse ear 0 (omega (arith, c.requires.some)) ∙ ap (entry_at ear) none) in
            let at : entry_at c.args.order.now place ≡ entry_at ear (length ear - 1) = elim c.first_place-place.ensures.place [ inl is_first ↦ absurd (w.if-order-place.true is_first) | inr is_last ↦ is_last ] in
            rw (w.turned-is, w.reverse.ensures.items, copied) (at ∙ first_reversed)
        | else-order-place w ↦ rw (w.turned-is, copied) w.if-order-place.false
      ],
    )

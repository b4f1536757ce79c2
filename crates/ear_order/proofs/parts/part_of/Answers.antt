use Rattle.std.proofs.Common.{◌≡◌, false, replicate, ap, ◌∙◌}
use Rattle.tomo_base.specs.Search.{mark_of}
use Rattle.tomo_base.specs.Sets.{has}
use Rattle.ear_order.proofs.Marking.{marks_only}
use Rattle.ear_order.proofs.Parting.{part_from}
use Rattle.ear_order.proofs.parts.part_of.Goals as goal

pub returns-clause-part : goal.returns-clause-part
returns-clause-part c =
    let bare : c.in_ok-inside.inside.items ≡ replicate c.nodes.result false = c.in_ok-inside.ensures.items_if_clones_equal (λ y h. h) in
    part_from c.args.g.now c.nodes.ensures.graph c.args.free.now c.args.x c.in_ok-found.found.order.items c.in_ok-found.found.parent.items c.in_ok-found.found.rank.items c.in_ok-found.ensures
    (mark_of c.mark.new.marks.items) (λ v. marks_only c.nodes.result c.in_ok-inside.inside.items (mark_of c.mark.new.marks.items v) (has c.deref.result.now v) v bare (c.mark.ensures.marks v) ∙ ap (λ xs. has xs v) c.deref.ensures.value)

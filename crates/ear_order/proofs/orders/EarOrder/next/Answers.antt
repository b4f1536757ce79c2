use Rattle.std.proofs.Common.{◌≡◌, ◌<◌, false, length, sym, subst, ap, ◌∙◌}
use Rattle.tomo_base.specs.Network.{Network}
use Rattle.tomo_base.specs.Search.{mark_of}
use Rattle.ear_order.specs.Ears.{Ears}
use Rattle.ear_order.specs.Easy.{AreMarks}
use Rattle.ear_order.proofs.Ordering.{left_in}
use Rattle.ear_order.proofs.orders.EarOrder.next.Goals as goal

pub next_ear-requires : goal.next_ear-requires
next_ear-requires c =
    let same = ap (λ (z : Ears). z.graph) c.self.view_is ∙ c.requires in
    let marks = subst (λ z. AreMarks z c.in_ok-old.old.items) (sym c.self.view_is) c.in_ok-old.ensures in
    let unmarked = c.in-Some._unmarked in
    rw c.deref-2.ensures.value (left_in _ c.self.invariant c.args.g.now same c.in_ok-old.old.items (marks.0 ∙ ap (λ (z : Network). z.nodes) same) marks.1 unmarked
    (subst (λ xs. unmarked < length xs) c.deref.ensures.value c.in-Some.ensures.below) (subst (λ xs. mark_of xs unmarked ≡ false) c.deref.ensures.value c.in-Some.ensures.some))

use Rattle.std.proofs.Common.{◌≡◌, ◌+◌, ◌-◌, ◌<◌, ◌≤◌, ℕ, false, List, IfSome, length, All, sym, subst, ap, ◌∙◌, arith}
use Rattle.std.proofs.lemmas.List.{get_or_default, length_push}
use Rattle.tomo_base.specs.Network.{Network, IsGraph}
use Rattle.tomo_base.specs.Search.{mark_of, entry_at}
use Rattle.ear_order.specs.Ears.{Ears, with_ear}
use Rattle.ear_order.specs.Turns.{IsLeft}
use Rattle.ear_order.specs.Easy.{IsEasy, with_one_ear}
use Rattle.ear_order.proofs.Founding.{founded_same}
use Rattle.ear_order.proofs.Ordering.{left_in, order_short}
use Rattle.ear_order.proofs.Spots.{ear_all}
use Rattle.ear_order.proofs.orders.add_easy.Goals.{After-deref-in-Some}
use Rattle.ear_order.proofs.orders.add_easy.Goals as goal

pub founded-requires : goal.founded-requires
founded-requires c =
    let o = c.args.ears.now in
    let g = c.args.g.now in
    let marks = c.in_ok-old.ensures in
    let size : length c.in_ok-old.old.items ≡ g.nodes = marks.0 ∙ ap (λ (z : Network). z.nodes) c.requires.graph in
    let below : c.args.u < length c.in_ok-old.old.items = omega (arith, marks.0, c.requires.order.ends.node, c.requires.third) in
    let new : mark_of c.in_ok-old.old.items c.args.u ≡ false = get_or_default c.in_ok-old.old.items c.args.u false _ below ∙ (sym c.index.ensures ∙ c.if-index.false) in
    rw c.deref.ensures.value (subst (IsLeft g c.in_ok-old.old.items) c.requires.third (left_in o c.requires.order g c.requires.graph c.in_ok-old.old.items size marks.1 c.args.u below new))

-- the ear that was found
easy_found : (c : After-deref-in-Some) → IsEasy c.args.g.now (mark_of c.loop-gone.old.items) (entry_at c.in_ok-tree.tree.rank.items) c.args.u c.in-Some.ear.items
easy_found c =
    let g = c.args.g.now in
    let e = c.in-Some.ear.items in
    let easy : IsEasy g (mark_of c.deref-in-loop-gone.result.now) (entry_at c.deref-in-loop-gone-2.result.now) c.args.u e =
    subst (λ o. IfSome o (λ e. IsEasy g (mark_of c.deref-in-loop-gone.result.now) (entry_at c.deref-in-loop-gone-2.result.now) c.args.u e.items)) c.in-Some.is c.in_ok-ear.ensures.ear in
    subst (λ xs. IsEasy g (mark_of xs) (entry_at c.in_ok-tree.tree.rank.items) c.args.u e) c.deref-in-loop-gone.ensures.value
    (subst (λ ys. IsEasy g (mark_of c.deref-in-loop-gone.result.now) (entry_at ys) c.args.u e) c.deref-in-loop-gone-2.ensures.value easy)

-- its nodes are gone
gone_found : (c : After-deref-in-Some) (w : ℕ) → mark_of c.next_easy.new.gone.items w ≡ with_ear (mark_of c.loop-gone.old.items) c.in-Some.ear.items w
gone_found c w =
    let e = c.in-Some.ear.items in
    let some : (v : ℕ) → mark_of c.next_easy.new.gone.items v ≡ with_ear (mark_of c.deref-in-loop-gone.result.now) e v =
    subst (λ o. IfSome o (λ e. (v : ℕ) → mark_of c.next_easy.new.gone.items v ≡ with_ear (mark_of c.deref-in-loop-gone.result.now) e.items v)) c.in-Some.is c.in_ok-ear.ensures.some in
    subst (λ xs. mark_of c.next_easy.new.gone.items w ≡ with_ear (mark_of xs) e w) c.deref-in-loop-gone.ensures.value (some w)

pub add_near_ear-requires-clause-ear : goal.add_near_ear-requires-clause-ear
add_near_ear-requires-clause-ear c =
    let g = c.args.g.now in
    subst (All (λ v. v < g.nodes)) (sym c.deref-in-Some.ensures.value) (ear_all g (subst IsGraph c.requires.graph c.requires.order.graph) (mark_of c.loop-gone.old.items) c.in-Some.ear.items (easy_found (goal.at.add_near_ear-requires-clause-ear c).After-deref-in-Some).is_ear)

pub loop-gone-smaller : goal.loop-gone-smaller
loop-gone-smaller c =
    let old = c.loop-gone.ears in
    let new = c.put.new.self in
    let added = c.in_ok-put.ensures.added in
    let longer : length new.list ≡ length old.list + 1 = ap (λ (z : Ears). length z.list) added ∙ length_push old.list c.in-Some.ear.items in
    let nodes : new.graph.nodes ≡ c.args.g.now.nodes = ap (λ (z : Ears). z.graph.nodes) added ∙ (ap (λ (z : Ears). z.graph.nodes) c.loop-gone.invariant.0.0 ∙ ap (λ (z : Network). z.nodes) c.requires.graph) in
    let short : length new.list ≤ new.graph.nodes = order_short new c.in_ok-put.ensures.order in
    let smaller : c.args.g.now.nodes - length new.list < c.args.g.now.nodes - length old.list = omega (arith, longer, nodes, short) in
    smaller

pub loop-gone-preserved : goal.loop-gone-preserved
loop-gone-preserved c =
    let e = c.in-Some.ear.items in
    let easy = easy_found (goal.at.loop-gone-preserved c).After-deref-in-Some in
    let old = c.loop-gone.ears in
    let new = c.put.new.self in
    let first = c.args.ears.now in
    let added : new ≡ with_one_ear old e = c.in_ok-put.ensures.added in
    let longer : length new.list ≡ length old.list + 1 = ap (λ (z : Ears). length z.list) added ∙ length_push old.list e in
    let other : List (List ℕ) → Ears = λ es. record first { list = es } in
    let kept : new ≡ other new.list = added ∙ (ap (λ z. with_one_ear z e) c.loop-gone.invariant.0.0 ∙ ap other (sym (ap (λ (z : Ears). z.list) added))) in
    let more = c.in_ok-put.ensures.more in (
      (kept, omega (arith, c.loop-gone.invariant.0.1, longer)),
      c.in_ok-put.ensures.order,
      c.in_ok-put.ensures.marks,
      more c.args.u ∙ easy.goes_on.third,
      founded_same c.args.g.now (with_ear (mark_of c.loop-gone.old.items) e) (mark_of c.put.new.old.items) (entry_at c.in_ok-tree.tree.rank.items) c.args.u (λ v. sym (more v)) easy.founded,
      c.in_ok-add_near_ear.ensures,
      subst (All (λ v. v < c.args.g.now.nodes)) (sym c.in_ok-ear.ensures.all) c.loop-gone.invariant.6,
      c.in_ok-ear.ensures.size,
      λ w. gone_found (goal.at.loop-gone-preserved c).After-deref-in-Some w ∙ sym (more w),
    )

use Rattle.std.proofs.Common.{◌≡◌, ◌≤◌, ◌<◌, ◌∙◌, ℕ, true, false, not, [], ◌∷◌, length, IsTrue, refl, sym, ap, subst, arith}
use Rattle.std.proofs.lemmas.Bool.{and_left, and_parts}
use Rattle.std.specs.List.{filter}
use Rattle.tomo_base.specs.Sets.{has, minus}
use Rattle.tomo_base.specs.Walks.{everything}
use Rattle.tomo_base.specs.Search.{mark_of, entry_at}
use Rattle.tomo_base.specs.Parting.{AreJoinedIn, IsJoinedWithoutOne}
use Rattle.tomo_base.proofs.Ascending.{All-has, place_in}
use Rattle.tomo_base.proofs.Reaching.{is_node-from}
use Rattle.gate_search.proofs.Marks.{mark_below}
use Rattle.gate_search.proofs.Trees.{order_below, free_in, first_in}
use Rattle.gate_search.proofs.Stopping.{searched_room}
use Rattle.blocks.specs.declared.block_list.Work.{Work}
use Rattle.gate_search.specs.Advancing.{HasTwoGates, HasOneGate}
use Rattle.blocks.specs.Working.{weight_of}
use Rattle.blocks.proofs.Filtering.{has-marked, IsSetBelow-filter}
use Rattle.blocks.proofs.CutOff.{grown_less, all_held}
use Rattle.blocks.proofs.Dividing.{same_hand, divided, fewer_free}
use Rattle.blocks.proofs.Parts.{found_one}
use Rattle.blocks.proofs.block_list.grow_block.Goals as goal

pub loop-i-init : goal.loop-i-init
loop-i-init c =
    let g = c.args.g.now in
    let nodes = c.in_ok-nodes.nodes.items in
    let same : (v : ℕ) → mark_of nodes v ≡ has c.args.part.now v = c.in_ok-nodes.ensures.marks in
    let hand = same_hand g (has c.args.part.now) (mark_of nodes) c.args.work.now same c.requires.working in
    let lighter : weight_of g (mark_of nodes ∷ []) c.args.work.now ≤ weight_of g (has c.args.part.now ∷ []) c.args.work.now = omega (arith, hand.1) in
    record {
      working = hand.0;
      lighter = lighter;
      inside = λ v t. sym (same v) ∙ t;
      grown = rw c.deref.ensures.value at c.in_ok-free.ensures.grown everything (λ v t. refl);
      marks = c.in_ok-nodes.ensures.length ∙ c.nodes.ensures.nodes;
      size = c.in_ok-free.ensures.size;
      starts = λ k d l. absurd (omega (arith, l, ap length c.new-starts.ensures.items));
      room = c.requires.room;
      passed = λ v l. absurd (omega (arith, l));
    }

pub advance_from-requires-clause-joined : goal.advance_from-requires-clause-joined
advance_from-requires-clause-joined c =
    let g = c.args.g.now in
    let grown = c.loop-i.invariant.grown in
    let root = c.args.root in
    let start = c.take_free-start.result in
    let is_free : mark_of c.loop-i.free.items start ≡ true = subst (λ xs. mark_of xs start ≡ true) c.deref-then-index.ensures.value c.take_free-start.ensures.node.1 in
    let joined = c.loop-i.invariant.working.cutting.rough.0.firm start root (grown.free_in start is_free) grown.root_in in (
      root,
      ap (λ xs. mark_of xs root) c.deref-then-index-3.ensures.value ∙ grown.root_held,
      subst (λ xs. AreJoinedIn g (mark_of xs) start root) (sym c.deref-then-index-2.ensures.value) joined,
    )

pub loop-i-preserved-in_ok-hold_way-in-Way : goal.loop-i-preserved-in_ok-hold_way-in-Way
loop-i-preserved-in_ok-hold_way-in-Way c =
    let g = c.args.g.now in
    let inv = c.loop-i.invariant in
    let s = c.advance_from.new.search in
    let way : HasTwoGates g (mark_of c.loop-i.nodes.items) c.loop-i.free.items s c.in-Way.y = rw (c.deref-then-index-2.ensures.value, c.deref-then-index-3.ensures.value, c.in-Way.is) at c.in_ok-y.ensures in
    record {
      working = inv.working;
      lighter = inv.lighter;
      inside = inv.inside;
      grown = c.in_ok-hold_way-in-Way.ensures.grown everything c.args.root (mark_of c.loop-i.nodes.items) way inv.grown;
      marks = inv.marks;
      size = c.in_ok-hold_way-in-Way.ensures.size;
      starts = c.in_ok-hold_way-in-Way.ensures.starts;
      room = searched_room g c.loop-i.free.items (s.start ∷ []) s.head s.found way.search.search;
      passed = λ k l. c.in_ok-hold_way-in-Way.ensures.passed (entry_at c.args.part.now k) (inv.passed k l);
    }

pub put_off-requires-clause-side : goal.put_off-requires-clause-side
put_off-requires-clause-side c =
    let g = c.args.g.now in
    let s = c.advance_from.new.search in
    let off : HasOneGate g (mark_of c.loop-i.nodes.items) c.loop-i.free.items s c.in-Cut.d = rw (c.deref-then-index-2.ensures.value, c.deref-then-index-3.ensures.value, c.in-Cut.is) at c.in_ok-y.ensures in
    rw c.deref-in-Cut.ensures.value (order_below g c.loop-i.free.items s.start s.head s.found c.loop-i.invariant.working.graph off.search.search)

pub put_off-requires-clause-inside : goal.put_off-requires-clause-inside
put_off-requires-clause-inside c =
    let g = c.args.g.now in
    let s = c.advance_from.new.search in
    let inv = c.loop-i.invariant in
    let off : HasOneGate g (mark_of c.loop-i.nodes.items) c.loop-i.free.items s c.in-Cut.d = rw (c.deref-then-index-2.ensures.value, c.deref-then-index-3.ensures.value, c.in-Cut.is) at c.in_ok-y.ensures in
    rw c.deref-in-Cut.ensures.value (λ v m. inv.inside v (inv.grown.free_in v (free_in g c.loop-i.free.items s.start s.head s.found inv.working.graph off.search.search v m)))

pub unmark-requires : goal.unmark-requires
unmark-requires c =
    let g = c.args.g.now in
    let s = c.advance_from.new.search in
    let off : HasOneGate g (mark_of c.loop-i.nodes.items) c.loop-i.free.items s c.in-Cut.d = rw (c.deref-then-index-2.ensures.value, c.deref-then-index-3.ensures.value, c.in-Cut.is) at c.in_ok-y.ensures in
    let below = order_below g c.loop-i.free.items s.start s.head s.found c.loop-i.invariant.working.graph off.search.search in
    rw c.deref-in-Cut-2.ensures.value (λ k d l. omega (arith, below k d l, c.loop-i.invariant.marks))

pub unmark-requires-in-Cut : goal.unmark-requires-in-Cut
unmark-requires-in-Cut c =
    let g = c.args.g.now in
    let s = c.advance_from.new.search in
    let off : HasOneGate g (mark_of c.loop-i.nodes.items) c.loop-i.free.items s c.in-Cut.d = rw (c.deref-then-index-2.ensures.value, c.deref-then-index-3.ensures.value, c.in-Cut.is) at c.in_ok-y.ensures in
    let below = order_below g c.loop-i.free.items s.start s.head s.found c.loop-i.invariant.working.graph off.search.search in
    rw c.deref-in-Cut-3.ensures.value (λ k d l. omega (arith, below k d l, c.loop-i.invariant.size))

pub loop-i-smaller-in-Cut : goal.loop-i-smaller-in-Cut
loop-i-smaller-in-Cut c =
    let g = c.args.g.now in
    let s = c.advance_from.new.search in
    let free = c.loop-i.free.items in
    let graph = c.loop-i.invariant.working.graph in
    let off : HasOneGate g (mark_of c.loop-i.nodes.items) free s c.in-Cut.d = rw (c.deref-then-index-2.ensures.value, c.deref-then-index-3.ensures.value, c.in-Cut.is) at c.in_ok-y.ensures in
    let here : IsTrue (has s.found.order.items s.start) = first_in g free s.start s.head s.found graph off.search.search in
    let is_free : mark_of free s.start ≡ true = free_in g free s.start s.head s.found graph off.search.search s.start here in
    let fewer = fewer_free g.nodes (mark_of free) (mark_of c.unmark-in-Cut.new.marks.items) (has s.found.order.items) s.start (omega (arith, mark_below free s.start is_free, c.loop-i.invariant.size)) is_free here
    (λ v. c.unmark-in-Cut.ensures.marks v ∙ ap (λ xs. minus (mark_of free) (has xs) v) c.deref-in-Cut-3.ensures.value) in
    omega (arith, fewer)

pub loop-i-preserved-in-Cut : goal.loop-i-preserved-in-Cut
loop-i-preserved-in-Cut c =
    let g = c.args.g.now in
    let s = c.advance_from.new.search in
    let inv = c.loop-i.invariant in
    let nodes = c.loop-i.nodes.items in
    let free = c.loop-i.free.items in
    let left = mark_of c.unmark.new.marks.items in
    let root = c.args.root in
    let off : HasOneGate g (mark_of nodes) free s c.in-Cut.d = rw (c.deref-then-index-2.ensures.value, c.deref-then-index-3.ensures.value, c.in-Cut.is) at c.in_ok-y.ensures in
    let nodes_are : (v : ℕ) → left v ≡ minus (mark_of nodes) (has s.found.order.items) v = λ v. c.unmark.ensures.marks v ∙ ap (λ xs. minus (mark_of nodes) (has xs) v) c.deref-in-Cut-2.ensures.value in
    let free_are : (v : ℕ) → mark_of c.unmark-in-Cut.new.marks.items v ≡ minus (mark_of free) (has s.found.order.items) v = λ v. c.unmark-in-Cut.ensures.marks v ∙ ap (λ xs. minus (mark_of free) (has xs) v) c.deref-in-Cut-3.ensures.value in
    let next = divided g root (mark_of nodes) left free s c.in-Cut.d c.loop-i.work c.put_off.new.work off inv.grown (rw c.deref-in-Cut.ensures.value at c.in_ok-put_off-in-Cut.ensures.part)
    (ap (λ z. z.items) c.in_ok-put_off-in-Cut.ensures.found) c.in_ok-put_off-in-Cut.ensures.cuts nodes_are inv.working in
    let before : weight_of g (mark_of nodes ∷ []) c.loop-i.work ≤ weight_of g (has c.args.part.now ∷ []) c.args.work.now = inv.lighter in
    let lighter : weight_of g (left ∷ []) c.put_off.new.work ≤ weight_of g (has c.args.part.now ∷ []) c.args.work.now = omega (arith, next.1, before) in
    record {
      working = next.0;
      lighter = lighter;
      inside = λ v t. inv.inside v (and_parts (mark_of nodes v) (not (has s.found.order.items v)) (sym (nodes_are v) ∙ t)).0;
      grown = grown_less g everything root (mark_of nodes) (mark_of free) left (mark_of c.unmark-in-Cut.new.marks.items) (has s.found.order.items) (λ v m. free_in g free s.start s.head s.found inv.working.graph off.search.search v m) nodes_are free_are inv.grown;
      marks = c.unmark.ensures.length ∙ inv.marks;
      size = c.unmark-in-Cut.ensures.length ∙ inv.size;
      starts = λ k d l. omega (arith, c.take_free-start.ensures.starts k d l, ap length c.deref-then-index.ensures.value, inv.size);
      room = searched_room g free (s.start ∷ []) s.head s.found off.search.search;
      passed = λ k l. let v = entry_at c.args.part.now k in free_are v ∙ and_left (mark_of free v) (not (has s.found.order.items v)) (inv.passed k l);
    }

pub returns-clause-working : goal.returns-clause-working
returns-clause-working c =
    let g = c.args.g.now in
    let n = g.nodes in
    let inv = c.loop-i.invariant in
    let nodes = c.loop-i.nodes.items in
    let part = c.args.part.now in
    let v = c.in_ok-marked_nodes.field-0 in
    let is : v.items ≡ filter (mark_of nodes) part = rw c.deref-2.ensures.value at c.in_ok-marked_nodes.ensures in
    let same : (x : ℕ) → has v.items x ≡ mark_of nodes x = λ x. ap (λ xs. has xs x) is ∙ has-marked nodes part inv.inside x in
    let next : Work = record { todo = c.loop-i.work.todo; found = c.push.new.self; cuts = c.loop-i.work.cuts } in
    let passed : (x : ℕ) → IsTrue (mark_of nodes x) → mark_of c.loop-i.free.items x ≡ false = λ x t. let k = place_in part x (inv.inside x t) in
    subst (λ z. mark_of c.loop-i.free.items z ≡ false) k.2 (inv.passed k.0 (omega (arith, k.1, c.loop-i-test.false))) in
    let firm : IsJoinedWithoutOne g (mark_of nodes) = all_held g c.args.root (mark_of nodes) (mark_of c.loop-i.free.items) (has part) inv.working.graph inv.working.cutting.rough.0 inv.grown
    passed inv.inside (λ x m. is_node-from g x (All-has (λ u. u < n) part c.requires.part.below x m)) c.requires.whole in
    (found_one g (mark_of nodes) c.loop-i.work next v refl c.in_ok-push.ensures.items refl (rw is (IsSetBelow-filter n (mark_of nodes) part c.requires.part)) (λ x m. same x ∙ m) (λ x m. sym (same x) ∙ m) firm inv.working).0

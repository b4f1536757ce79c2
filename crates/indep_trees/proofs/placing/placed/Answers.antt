use Rattle.std.proofs.Common.{◌≡◌, ◌+◌, ◌-◌, ◌<◌, ◌≤◌, ℕ, Bool, true, All, length, take, ap, ◌∙◌, arith}
use Rattle.std.proofs.lemmas.List.{length-replicate}
use Rattle.tomo_base.specs.Sets.{has}
use Rattle.tomo_base.specs.Walks.{NoneTwice}
use Rattle.tomo_base.specs.Search.{entry_at}
use Rattle.ear_order.specs.Ears.{Ears, IsEar, ends_of}
use Rattle.ear_order.specs.Turns.{ContinuesWith}
use Rattle.ear_order.proofs.Ordering.{after}
use Rattle.indep_trees.proofs.Placements.{ear_of, ends_placed, ear_facts, placed_none, placed_more, placed_all, zeros}
use Rattle.indep_trees.proofs.placing.placed.Goals.{After-ear, In_ok-faced}
use Rattle.indep_trees.proofs.placing.placed.Goals as goal

-- what the ears before place i have, and the two first nodes
abbrev placed_before : Ears → ℕ → ℕ → ℕ → ℕ → Bool
placed_before o r t i = after (ends_of r t) (take i o.list)

-- the given ear begins and ends at placed nodes, and the order goes on with it
given : (c : After-ear) → IsEar c.args.ears.now.graph (placed_before c.args.ears.now c.args.r c.args.t c.loop-i.i) c.ear.result.now
    × ContinuesWith c.args.ears.now.graph c.args.ears.now.u (placed_before c.args.ears.now c.args.r c.args.t c.loop-i.i) c.ear.result.now
given c = ear_of c.args.ears.now c.requires.order c.args.r c.args.t c.requires.r c.requires.t c.loop-i.i (omega (arith, c.loop-i-test.true, c.len-i-end.ensures.len)) c.ear.result.now c.ear.ensures

-- its two ends are placed, and differ
ends : (c : After-ear) → let e = c.ear.result.now in let order = c.loop-i.order.items in
    (has order (entry_at e 0) ≡ true) × (has order (entry_at e (length e - 1)) ≡ true) × (entry_at e 0 ≡ entry_at e (length e - 1) → ⊥)
ends c = ends_placed c.args.ears.now.graph c.args.r c.args.t c.args.ears.now.u _ c.loop-i.order.items (entry_at c.loop-i.low.items) (entry_at c.loop-i.high.items) (entry_at c.loop-i.numbers.items) (c.loop-i.i + 1)
    c.ear.result.now c.loop-i.invariant.3 (given c).0

-- the ear that is put has two different nodes or more, all of them nodes of the graph
facts : (c : In_ok-faced) → let e = c.in_ok-faced.faced.ear.items in
    IsEar c.args.ears.now.graph (placed_before c.args.ears.now c.args.r c.args.t c.loop-i.i) e × (2 ≤ length e) × NoneTwice e × All (λ v. v < c.args.ears.now.graph.nodes) e
facts c =
    let old = ear_of c.args.ears.now c.requires.order c.args.r c.args.t c.requires.r c.requires.t c.loop-i.i (omega (arith, c.loop-i-test.true, c.len-i-end.ensures.len)) c.ear.result.now c.ear.ensures in
    ear_facts c.args.ears.now.graph c.requires.order.graph _ c.in_ok-faced.faced.ear.items c.ear.result.now c.in_ok-faced.ensures.ear old.0

pub loop-i-init : goal.loop-i-init
loop-i-init c =
    let nought = c.in_ok-numbers.ensures.items_if_clones_equal (λ y h. h) in (
      ap length (c.in_ok-low.ensures.items_if_clones_equal (λ y h. h)) ∙ length-replicate c.args.n 0,
      ap length (c.in_ok-high.ensures.items_if_clones_equal (λ y h. h)) ∙ length-replicate c.args.n 0,
      ap length nought ∙ length-replicate c.args.n 0,
      rw (c.in_ok-push-2.ensures.items, c.in_ok-push.ensures.items, c.new-order.ensures.items) (placed_none c.args.ears.now c.requires.order c.args.r c.args.t c.requires.r c.requires.t (entry_at c.in_ok-low.low.items) (entry_at c.in_ok-high.high.items) (entry_at c.in_ok-numbers.numbers.items)
          (λ v. ap (λ z. entry_at z v) nought ∙ zeros c.args.n v)),
    )

pub face-requires-clause-some : goal.face-requires-clause-some
face-requires-clause-some c =
    omega (arith, (given (goal.at.face-requires-clause-some c).After-ear).0.three)

pub face-requires-clause-first : goal.face-requires-clause-first
face-requires-clause-first c =
    rw c.deref.ensures.value (ends (goal.at.face-requires-clause-first c).After-ear).0

pub face-requires-clause-last : goal.face-requires-clause-last
face-requires-clause-last c =
    rw c.deref.ensures.value (ends (goal.at.face-requires-clause-last c).After-ear).1

pub face-requires-clause-differ : goal.face-requires-clause-differ
face-requires-clause-differ c =
    (ends (goal.at.face-requires-clause-differ c).After-ear).2

pub widen-requires-clause-long : goal.widen-requires-clause-long
widen-requires-clause-long c = (facts (goal.at.widen-requires-clause-long c).In_ok-faced).1

pub put-requires-clause-long : goal.put-requires-clause-long
put-requires-clause-long c = rw c.deref-in-loop-i.ensures.value (facts (goal.at.put-requires-clause-long c).In_ok-faced).1

pub put-requires-clause-low : goal.put-requires-clause-low
put-requires-clause-low c =
    rw c.deref-in-loop-i.ensures.value (λ k d l. omega (arith, (facts (goal.at.put-requires-clause-low c).In_ok-faced).3 k d l, c.requires.nodes, c.loop-i.invariant.0))

pub put-requires-clause-high : goal.put-requires-clause-high
put-requires-clause-high c =
    rw c.deref-in-loop-i.ensures.value (λ k d l. omega (arith, (facts (goal.at.put-requires-clause-high c).In_ok-faced).3 k d l, c.requires.nodes, c.loop-i.invariant.1))

pub put-requires-clause-different : goal.put-requires-clause-different
put-requires-clause-different c = rw c.deref-in-loop-i.ensures.value (facts (goal.at.put-requires-clause-different c).In_ok-faced).2

pub fill-requires-clause-long : goal.fill-requires-clause-long
fill-requires-clause-long c = rw c.deref-in-loop-i-2.ensures.value (facts (goal.at.fill-requires-clause-long c).In_ok-faced).1

pub fill-requires-clause-nodes : goal.fill-requires-clause-nodes
fill-requires-clause-nodes c =
    rw c.deref-in-loop-i-2.ensures.value (λ k d l. omega (arith, (facts (goal.at.fill-requires-clause-nodes c).In_ok-faced).3 k d l, c.requires.nodes, c.loop-i.invariant.2))

pub loop-i-preserved : goal.loop-i-preserved
loop-i-preserved c =
    let low = rw c.deref-in-loop-i.ensures.value at c.put.ensures.low in
    let high = rw c.deref-in-loop-i.ensures.value at c.put.ensures.high in (
      low.0 ∙ c.loop-i.invariant.0,
      high.0 ∙ c.loop-i.invariant.1,
      c.fill.ensures.size ∙ c.loop-i.invariant.2,
      placed_more c.args.ears.now c.requires.order c.args.r c.args.t c.requires.r c.requires.t c.loop-i.i (omega (arith, c.loop-i-test.true, c.len-i-end.ensures.len)) c.ear.result.now c.in_ok-faced.faced.ear.items c.loop-i.order.items c.widen.new.order.items
          c.loop-i.low.items c.loop-i.high.items c.loop-i.numbers.items c.put.new.low.items c.put.new.high.items c.fill.new.values.items c.ear.ensures c.loop-i.invariant.3 c.in_ok-faced.ensures.ear
          (rw c.deref.ensures.value at c.in_ok-faced.ensures.before) c.in_ok-widen.ensures low high
          (rw c.deref-in-loop-i-2.ensures.value at c.fill.ensures.given) (rw c.deref-in-loop-i-2.ensures.value at c.fill.ensures.kept),
    )

pub returns-clause-low : goal.returns-clause-low
returns-clause-low c =
    c.loop-i.invariant.0

pub returns-clause-high : goal.returns-clause-high
returns-clause-high c =
    c.loop-i.invariant.1

pub returns-clause-ears : goal.returns-clause-ears
returns-clause-ears c =
    c.loop-i.invariant.2

pub returns-clause-numbered : goal.returns-clause-numbered
returns-clause-numbered c =
    placed_all c.args.ears.now c.requires.order c.args.r c.args.t c.requires.r c.requires.t c.loop-i.i (omega (arith, c.loop-i.auto.i-end, c.len-i-end.ensures.len)) (omega (arith, c.loop-i-test.false, c.len-i-end.ensures.len))
    c.loop-i.order.items (entry_at c.loop-i.low.items) (entry_at c.loop-i.high.items) (entry_at c.loop-i.numbers.items) c.loop-i.invariant.3

use Rattle.std.proofs.Common.{◌≡◌, ◌++◌, [], ◌∷◌, ◌<◌, suc, true, length, sym, subst, ◌∙◌, arith}
use Rattle.std.proofs.lemmas.List.{get_or_read, get_or_default}
use Rattle.tomo_base.specs.Sets.{has}
use Rattle.tomo_base.specs.Search.{entry_at}
use Rattle.tomo_base.proofs.Ascending.{has-at}
use Rattle.ear_order.proofs.Lists.{ear_from}
use Rattle.ear_order.proofs.Reaching.{reached_below, parent_read, falls_to_read, trailing_none, trailing_more, trail_ear, inner_reached, whole_length}
use Rattle.ear_order.proofs.paths.trail.Goals.{In_ok-push-4}
use Rattle.ear_order.proofs.paths.trail.Goals as goal

pub loop-v-init : goal.loop-v-init
loop-v-init c =
    let order = c.args.found.now.order.items in
    let v_is : c.index-v.result.now ≡ entry_at order c.args.place = get_or_read order _ _ c.requires.place c.index-v.ensures 0 in
    rw (c.in_ok-push.ensures.items, c.new-path.ensures.items, v_is) (trailing_none c.args.g.now c.args.e c.args.found.now c.args.z (entry_at order c.args.place) c.requires.link (has-at order c.args.place 0 c.requires.place))

pub index-v-requires-in-loop-v : goal.index-v-requires-in-loop-v
index-v-requires-in-loop-v c = omega (arith, reached_below c.args.g.now c.args.e c.args.found.now c.loop-v.v c.requires.back c.loop-v.invariant.here, c.requires.back.parents, c.args.found.now.parent.ok)

pub loop-v-smaller : goal.loop-v-smaller
loop-v-smaller c = falls_to_read c.args.g.now c.args.e c.args.found.now c.loop-v.v _ _ c.requires.back c.loop-v.invariant.here c.index.ensures c.index-v-in-loop-v.ensures c.loop-v-test.true

pub loop-v-preserved : goal.loop-v-preserved
loop-v-preserved c =
    let found = c.args.found.now in
    let v = c.loop-v.v in
    let test_is : c.index.result.now ≡ entry_at found.parent.items v = parent_read c.args.g.now c.args.e found v _ c.requires.back c.loop-v.invariant.here c.index.ensures in
    let next_is : c.index-v-in-loop-v.result.now ≡ entry_at found.parent.items v = parent_read c.args.g.now c.args.e found v _ c.requires.back c.loop-v.invariant.here c.index-v-in-loop-v.ensures in
    rw (c.in_ok-push-2.ensures.items, next_is) (trailing_more c.args.g.now c.args.e found c.args.z c.loop-v.path.items v c.requires.back (λ same. c.loop-v-test.true (test_is ∙ same)) c.loop-v.invariant)

-- the node at which the way ends is its own parent
root : (c : In_ok-push-4) → entry_at c.args.found.now.parent.items c.loop-v.v ≡ c.loop-v.v
root c = sym (parent_read c.args.g.now c.args.e c.args.found.now c.loop-v.v _ c.requires.back c.loop-v.invariant.here c.index.ensures) ∙ c.loop-v-test.false

pub returns-clause-ear : goal.returns-clause-ear
returns-clause-ear c =
    let v = c.loop-v.v in
    let path = c.loop-v.path.items in
    λ old zo eo differ new. rw (c.in_ok-push-4.ensures.items, c.in_ok-push-3.ensures.items) (ear_from c.args.g.now old ((path ++ v ∷ []) ++ c.args.e ∷ []) (suc (length path)) (whole_length c.args.e path v)
    (trail_ear c.args.g.now c.args.e c.args.found.now c.args.z path v c.requires.back (root (goal.at.returns-clause-ear c).In_ok-push-4) c.loop-v.invariant old zo eo differ new))

pub returns-clause-over : goal.returns-clause-over
returns-clause-over c = rw (c.in_ok-push-4.ensures.items, c.in_ok-push-3.ensures.items) (λ k d low high.
    let v = c.loop-v.v in
    let path = c.loop-v.path.items in
    let within : k < length ((path ++ v ∷ []) ++ c.args.e ∷ []) = omega (arith, high) in
    subst (λ w. has c.args.found.now.order.items w ≡ true) (get_or_default ((path ++ v ∷ []) ++ c.args.e ∷ []) k 0 d within)
    (inner_reached c.args.g.now c.args.e c.args.found.now c.args.z path v c.requires.back (root (goal.at.returns-clause-over c).In_ok-push-4) c.loop-v.invariant k low (omega (arith, high, whole_length c.args.e path v))))

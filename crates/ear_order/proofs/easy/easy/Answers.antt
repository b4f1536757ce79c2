use Rattle.std.proofs.Common.{◌≡◌, ◌≤◌, ◌-◌, ◌<◌, ℕ, false, cond, IfSome, All, [], ◌∷◌, take, drop, length, sym, subst, arith}
use Rattle.std.proofs.lemmas.List.{take_rest}
use Rattle.tomo_base.specs.Sets.{has}
use Rattle.tomo_base.specs.Search.{mark_of, entry_at}
use Rattle.ear_order.specs.Easy.{CanGo, EndsAt}
use Rattle.ear_order.proofs.Founding.{easy_from}
use Rattle.ear_order.proofs.Ways.{way_begun, way_all, tail_all, way_gone, way_back}
use Rattle.ear_order.proofs.easy.easy.Goals as goal

pub extend_way-requires-clause-way : goal.extend_way-requires-clause-way
extend_way-requires-clause-way c =
    let copied : c.in_ok-way.way.items ≡ c.in-Some.first ∷ c.args.v ∷ [] = c.in_ok-way.ensures.items_if_clones_equal (λ x y h. h) in
    rw copied (way_begun c.args.g.now (mark_of c.args.old.now) c.args.u c.args.gone.now.items c.requires.same c.in-Some.first c.args.v c.in-Some.ensures.marked c.in-Some.ensures.link c.if-old-v.false c.if-v-u.false
    (omega (arith, c.requires.node, c.requires.gone)))

pub all_can_go-requires-clause-way : goal.all_can_go-requires-clause-way
all_can_go-requires-clause-way c =
    subst (All (λ v. v < c.args.g.now.nodes)) (sym c.deref-3.ensures.value) (way_all c.args.g.now (mark_of c.args.old.now) c.args.u (mark_of c.extend_way.new.gone.items) c.extend_way.new.way.items c.in_ok-end.ensures.way c.nodes.ensures.graph)

pub returns-clause-ear : goal.returns-clause-ear
returns-clause-ear c =
    let g = c.args.g.now in
    let old = mark_of c.args.old.now in
    let rank = entry_at c.args.rank.now in
    let gone = mark_of c.extend_way.new.gone.items in
    let way = c.extend_way.new.way.items in
    let end = subst (λ o. IfSome o (EndsAt g old way)) c.in-Some-end.is c.in_ok-end.ensures.end in
    let can : (k : ℕ) → 1 ≤ k → k < length way → CanGo g gone rank (entry_at way k) =
    subst (λ xs. (k : ℕ) → 1 ≤ k → k < length xs → CanGo g gone rank (entry_at xs k)) c.deref-3.ensures.value
    (subst (λ ys. (k : ℕ) → 1 ≤ k → k < length c.deref-3.result.now → CanGo g (mark_of ys) rank (entry_at c.deref-3.result.now k)) c.deref-2.ensures.value (c.all_can_go.ensures c.if-all_can_go.true)) in
    rw c.in_ok-push.ensures.items (easy_from g c.nodes.ensures.graph old rank c.args.u c.requires.founded c.requires.third gone way c.in_ok-end.ensures.way can c.in-Some-end.last end)

pub returns-clause-some : goal.returns-clause-some
returns-clause-some c =
    let g = c.args.g.now in
    let old = mark_of c.args.old.now in
    let way = c.extend_way.new.way.items in
    let end = subst (λ o. IfSome o (EndsAt g old way)) c.in-Some-end.is c.in_ok-end.ensures.end in
    rw c.in_ok-push.ensures.items (way_gone g old c.args.u (mark_of c.extend_way.new.gone.items) way c.in_ok-end.ensures.way c.in-Some-end.last end)

pub mark-requires : goal.mark-requires
mark-requires c =
    let g = c.args.g.now in
    let way = c.extend_way.new.way.items in
    let all = tail_all g (mark_of c.args.old.now) c.args.u c.nodes.ensures.graph (mark_of c.extend_way.new.gone.items) way c.in_ok-end.ensures.way in
    subst (λ n. All (λ v. v < n) (take (length c.deref-4.result.now - 1) (drop 1 c.deref-4.result.now))) (sym c.in_ok-end.ensures.size)
    (subst (λ xs. All (λ v. v < g.nodes) (take (length xs - 1) (drop 1 xs))) (sym c.deref-4.ensures.value) (subst (All (λ v. v < g.nodes)) (sym (take_rest way 1)) all))

pub returns-2-clause-none : goal.returns-2-clause-none
returns-2-clause-none c =
    let way = c.extend_way.new.way.items in
    let gone = c.extend_way.new.gone.items in
    let new = c.mark.new.marks.items in
    way_back c.args.g.now (mark_of c.args.old.now) c.args.u gone new way c.in_ok-end.ensures.way
    (λ x. subst (λ xs. mark_of new x ≡ cond (has xs x) false (mark_of gone x)) (take_rest way 1)
    (subst (λ ys. mark_of new x ≡ cond (has (take (length ys - 1) (drop 1 ys)) x) false (mark_of gone x)) c.deref-4.ensures.value (c.mark.ensures.marks x)))

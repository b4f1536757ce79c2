use Rattle.std.proofs.Common.{◌≡◌, ◌<◌, not, true, length, get_or, take, All, sym, ap, subst, arith, ◌∙◌}
use Rattle.std.specs.List.Sorted.{IsStrictlyIncreasing}
use Rattle.std.proofs.lemmas.Bool.{and_from, not_from_false}
use Rattle.tomo_base.specs.Sets.{has, minus}
use Rattle.tomo_base.proofs.Ascending.{has-at}
use Rattle.ident_laws.proofs.Labels.{begin, grow}
use Rattle.pocket_bound.proofs.Growing.{none_gathered, few_members, next_above, gathered, passed}
use Rattle.tomo_base.proofs.Lists.{lent_back}
use Rattle.pocket_bound.proofs.labelling.labels.Goals as goal

pub loop-i-init : goal.loop-i-init
loop-i-init c =
    none_gathered c.args.g.now (has c.args.m.now) (has c.args.must.now) c.in_ok-labels.labels.items begin
    (rw c.nodes-count.ensures.nodes at (c.in_ok-labels.ensures.items_if_clones_equal (λ y h. h)))

pub home-requires-clause-member : goal.home-requires-clause-member
home-requires-clause-member c =
    let same : c.as_slice-x-items.result.now ≡ c.args.m.now = c.as_slice-x-items.ensures.nodes in
    subst (λ xs. has xs (get_or c.as_slice-x-items.result.now c.loop-i.i 0) ≡ true) same (has-at c.as_slice-x-items.result.now c.loop-i.i 0 c.loop-i-test.true)

pub home-requires-clause-kept : goal.home-requires-clause-kept
home-requires-clause-kept c =
    let same : c.as_slice-x-items.result.now ≡ c.args.m.now = c.as_slice-x-items.ensures.nodes in
    let x = get_or c.as_slice-x-items.result.now c.loop-i.i 0 in
    let member : has c.args.m.now x ≡ true = subst (λ xs. has xs x ≡ true) same (has-at c.as_slice-x-items.result.now c.loop-i.i 0 c.loop-i-test.true) in
    c.requires.kept c.nodes-count.ensures.graph x (subst (All (λ v. v < c.args.g.now.nodes)) (sym same) c.requires.nodes c.loop-i.i 0 c.loop-i-test.true) (and_from (has c.args.m.now x) (not (has c.args.must.now x)) member (not_from_false _ (sym c.has.ensures ∙ c.if-has.false)))

pub overflow_cast-i : goal.overflow_cast-i
overflow_cast-i c = omega (arith, c.loop-i-test.true, ap (λ xs. length xs) c.as_slice-x-items.ensures.nodes, few_members c.args.g.now.nodes c.args.m.now c.as_slice-x-items.ensures.ascending c.requires.nodes, c.nodes-count.ensures.nodes, c.nodes-count.ensures.few)

pub overflow_add-i : goal.overflow_add-i
overflow_add-i c = omega (arith, c.loop-i-test.true, ap (λ xs. length xs) c.as_slice-x-items.ensures.nodes, few_members c.args.g.now.nodes c.args.m.now c.as_slice-x-items.ensures.ascending c.requires.nodes, c.nodes-count.ensures.nodes, c.nodes-count.ensures.few)

pub join-requires-clause-new : goal.join-requires-clause-new
join-requires-clause-new c =
    let lent : c.deref_mut.result.now ≡ c.loop-i.labels.items = c.deref_mut.ensures.value in
    rw lent (next_above c.args.g.now (has c.args.m.now) (minus (has (take c.loop-i.i c.as_slice-x-items.result.now)) (has c.args.must.now)) c.loop-i.i c.loop-i.labels.items c.loop-i.invariant)

pub loop-i-preserved : goal.loop-i-preserved
loop-i-preserved c =
    let xs = c.as_slice-x-items.result.now in
    let same : xs ≡ c.args.m.now = c.as_slice-x-items.ensures.nodes in
    let lent : c.deref_mut.result.now ≡ c.loop-i.labels.items = c.deref_mut.ensures.value in
    let size : length c.join.new.labels ≡ length c.loop-i.labels.items = omega (arith, c.join.auto.labels, ap (λ ys. length ys) lent) in
    rw (lent_back c.loop-i.labels.len c.join.new.labels c.loop-i.labels.items (omega (arith, size, c.loop-i.labels.ok)))
    (gathered c.args.g.now (has c.args.m.now) (has c.args.must.now) xs c.loop-i.i c.loop-i-test.true (subst IsStrictlyIncreasing (sym same) c.as_slice-x-items.ensures.ascending)
    c.loop-i.labels.items c.join.new.labels c.in_ok-home.home c.loop-i.invariant (subst (All (λ v. v < c.args.g.now.nodes)) (sym same) c.requires.nodes c.loop-i.i 0 c.loop-i-test.true)
    (sym c.has.ensures ∙ c.if-has.false) c.in_ok-home.ensures.home grow size (rw lent at c.in_ok-join.ensures.joined))

pub loop-i-preserved-then-has : goal.loop-i-preserved-then-has
loop-i-preserved-then-has c = passed c.args.g.now (has c.args.m.now) (has c.args.must.now) c.as_slice-x-items.result.now c.loop-i.i c.loop-i-test.true c.loop-i.labels.items c.loop-i.invariant
    (sym c.has.ensures ∙ c.if-has.true)

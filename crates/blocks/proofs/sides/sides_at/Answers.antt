use Rattle.std.proofs.Common.{◌≡◌, ℕ, zero, suc, ◌<◌, ◌∙◌, length, true, sym, ap, arith, inl, inr, refl, IsTrue, get_or, [], ◌∷◌}
use Rattle.std.proofs.lemmas.List.{get_or_default}
use Rattle.tomo_base.specs.Search.{mark_of, entry_at}
use Rattle.tomo_base.specs.Sets.{has, without}
use Rattle.tomo_base.proofs.Ascending.{All-has}
use Rattle.blocks.proofs.Filtering.{filter_more, filter_past}
use Rattle.blocks.proofs.Sweeping.{is_near, is_far, cut_passes, reached_passes, unreached_passes, other_first, sides_is, rest_is}
use Rattle.blocks.proofs.sides.sides_at.Goals as goal
use Rattle.blocks.proofs.sides.sides_at.Goals.{then-nodes-cut, else-nodes-cut, then-v-cut+in_ok-push+in_ok-push-2, else-v-cut+then-index-n+in_ok-push-3, else-v-cut+else-index-n+in_ok-push-4}

pub marks_without-requires-clause-out : goal.marks_without-requires-clause-out
marks_without-requires-clause-out c =
    let node : c.args.cut < c.args.g.now.nodes = All-has (λ v. v < c.args.g.now.nodes) c.args.nodes.now c.requires.set.below c.args.cut c.requires.node in
    omega (arith, node, c.nodes-n.ensures.nodes)

pub sweep-requires-clause-free : goal.sweep-requires-clause-free
sweep-requires-clause-free c = λ k d l. first k d l
  where
    begins : IsTrue (without (has c.args.nodes.now) c.args.cut c.if-nodes-cut.start)
    begins = other_first c.args.nodes.now c.args.cut c.if-nodes-cut.start c.requires.set.ascending c.requires.two
        (elim c.if-nodes-cut.branch [ then-nodes-cut w ↦ inl (w.start-is, w.if-nodes-cut.true) | else-nodes-cut w ↦ inr (w.start-is, w.if-nodes-cut.false) ])

    first : (k d : ℕ) → k < 1 → mark_of c.deref.result.now (get_or (c.if-nodes-cut.start ∷ []) k d) ≡ true
    first zero d l = ap (λ xs. mark_of xs c.if-nodes-cut.start) c.deref.ensures.value ∙ (c.in_ok-free.ensures.marks c.if-nodes-cut.start ∙ begins)
    first (suc k) d l = absurd (omega (arith, l))

pub loop-v-preserved : goal.loop-v-preserved
loop-v-preserved c =
    let nodes = c.args.nodes.now in
    let v = get_or nodes c.loop-v.v-index 0 in
    let rank = c.in_ok-found.found.rank.items in
    let n = c.nodes-n.result in
    let cut = c.args.cut in
    let node : v < c.args.g.now.nodes = c.requires.set.below c.loop-v.v-index 0 c.loop-v-test.true in
    let room : v < length rank = omega (arith, node, c.in_ok-found.ensures.ranks.one_each) in
    elim c.if-v-cut.branch [
      | then-v-cut+in_ok-push+in_ok-push-2 w ↦
          let tests = cut_passes n rank cut v w.if-v-cut.true in
          rw (w.near-is, w.far-is, w.in_ok-push.ensures.items, w.in_ok-push-2.ensures.items)
          (filter_more (is_near n rank cut) nodes _ c.loop-v.v-index 0 v c.loop-v-test.true refl tests.0 c.loop-v.invariant.0, filter_more (is_far n rank cut) nodes _ c.loop-v.v-index 0 v c.loop-v-test.true refl tests.1 c.loop-v.invariant.1)
      | else-v-cut+then-index-n+in_ok-push-3 w ↦
          let rank_is : entry_at rank v ≡ w.index.result.now = get_or_default rank v 0 _ room ∙ sym w.index.ensures in
          let tests = reached_passes n rank cut v w.if-v-cut.false (omega (arith, rank_is, w.if-index-n.true)) in
          rw (w.near-is, w.far-is, w.in_ok-push-3.ensures.items)
          (filter_more (is_near n rank cut) nodes _ c.loop-v.v-index 0 v c.loop-v-test.true refl tests.0 c.loop-v.invariant.0, filter_past (is_far n rank cut) nodes _ c.loop-v.v-index 0 v c.loop-v-test.true refl tests.1 c.loop-v.invariant.1)
      | else-v-cut+else-index-n+in_ok-push-4 w ↦
          let rank_is : entry_at rank v ≡ w.index.result.now = get_or_default rank v 0 _ room ∙ sym w.index.ensures in
          let tests = unreached_passes n rank cut v w.if-v-cut.false (omega (arith, rank_is, w.if-index-n.false)) in
          rw (w.near-is, w.far-is, w.in_ok-push-4.ensures.items)
          (filter_past (is_near n rank cut) nodes _ c.loop-v.v-index 0 v c.loop-v-test.true refl tests.0 c.loop-v.invariant.0, filter_more (is_far n rank cut) nodes _ c.loop-v.v-index 0 v c.loop-v-test.true refl tests.1 c.loop-v.invariant.1)
    ]

pub returns-then-len-eq-ALONE-clause-none : goal.returns-then-len-eq-ALONE-clause-none
returns-then-len-eq-ALONE-clause-none c =
    rest_is c.args.g.now c.args.nodes.now c.args.cut c.if-nodes-cut.start c.deref.result.now _ _ _ c.nodes-n.ensures.graph c.requires.set c.requires.node
    (λ v. ap (λ xs. mark_of xs v) c.deref.ensures.value ∙ c.in_ok-free.ensures.marks v) c.in_ok-found.ensures
    (other_first c.args.nodes.now c.args.cut c.if-nodes-cut.start c.requires.set.ascending c.requires.two
    (elim c.if-nodes-cut.branch [ then-nodes-cut w ↦ inl (w.start-is, w.if-nodes-cut.true) | else-nodes-cut w ↦ inr (w.start-is, w.if-nodes-cut.false) ]))
    c.nodes-n.result c.loop-v.v-index c.loop-v.far.items c.nodes-n.ensures.nodes c.loop-v-test.false c.loop-v.invariant.1 (omega (arith, c.len.ensures, c.if-len-eq-ALONE.true))

pub returns-clause-sides : goal.returns-clause-sides
returns-clause-sides c =
    sides_is c.args.g.now c.args.nodes.now c.args.cut c.if-nodes-cut.start c.deref.result.now _ _ _ c.nodes-n.ensures.graph c.requires.set c.requires.node
    (λ v. ap (λ xs. mark_of xs v) c.deref.ensures.value ∙ c.in_ok-free.ensures.marks v) c.in_ok-found.ensures
    (other_first c.args.nodes.now c.args.cut c.if-nodes-cut.start c.requires.set.ascending c.requires.two
    (elim c.if-nodes-cut.branch [ then-nodes-cut w ↦ inl (w.start-is, w.if-nodes-cut.true) | else-nodes-cut w ↦ inr (w.start-is, w.if-nodes-cut.false) ]))
    c.nodes-n.result c.loop-v.v-index c.loop-v.near.items c.loop-v.far.items c.nodes-n.ensures.nodes c.loop-v-test.false c.loop-v.invariant.0 c.loop-v.invariant.1
    (λ one. c.if-len-eq-ALONE.false (omega (arith, c.len.ensures, one)))

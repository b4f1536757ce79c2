use Rattle.std.proofs.Common.{refl, ◌≡◌, ◌∙◌, subst, ℕ}
use Rattle.std.proofs.lemmas.List.{take_all}
use Rattle.tomo_base.specs.Sets.{has, without}
use Rattle.unit_flow.proofs.Marking.{others_more, others_same, others_below}
use Rattle.unit_flow.proofs.fans.others.Goals as goal
use Rattle.unit_flow.proofs.fans.others.Goals.{then-v-x+in_ok-insert, else-v-x}

pub loop-v-init : goal.loop-v-init
unfolding has
loop-v-init c = λ w. rw c.new-rest.ensures refl

pub loop-v-preserved : goal.loop-v-preserved
loop-v-preserved c = elim c.if-v-x.branch [
  | then-v-x+in_ok-insert w ↦ λ u. rw (w.rest-is, w.in_ok-insert.ensures.nodes u)
      (others_more c.loop-v.rest c.as_slice-v-items.result.now c.loop-v.v-index 0 _ c.args.x u c.loop-v-test.true refl w.if-v-x.true (c.loop-v.invariant u))
  | else-v-x w ↦ λ u. rw w.rest-is
      (others_same c.loop-v.rest c.as_slice-v-items.result.now c.loop-v.v-index 0 _ c.args.x u c.loop-v-test.true refl w.if-v-x.false (c.loop-v.invariant u))
]

-- all nodes of the set were looked at
all_seen : (c : goal.After-loop-v) (w : ℕ) → has c.loop-v.rest w ≡ without (has c.args.m.now) c.args.x w
all_seen c w =
    let whole = take_all c.loop-v.v-index c.as_slice-v-items.result.now c.loop-v-test.false ∙ c.as_slice-v-items.ensures.nodes in
    subst (λ xs. has c.loop-v.rest w ≡ without (has xs) c.args.x w) whole (c.loop-v.invariant w)

pub returns-clause-nodes : goal.returns-clause-nodes
returns-clause-nodes c = all_seen c

pub returns-clause-below : goal.returns-clause-below
returns-clause-below c = λ n all. others_below c.loop-v.rest c.args.m.now c.args.x n (all_seen c) all

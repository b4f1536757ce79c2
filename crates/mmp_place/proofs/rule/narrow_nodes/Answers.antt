use Rattle.std.proofs.Common.{ℕ, nat_lt, Bool, arith, ◌∙◌, lt-ltb, le-ltb}
use Rattle.tomo_base.specs.Sets.{has, degree}
use Rattle.tomo_base.proofs.Ranges.{below-none, below-more, below-less}
use Rattle.tomo_base.proofs.Touching.{length-hops}
use Rattle.mmp_place.proofs.rule.narrow_nodes.Goals as goal
use Rattle.mmp_place.proofs.rule.narrow_nodes.Goals.{then-hops-lt-WIDE+in_ok-insert, else-hops-lt-WIDE}

pub loop-v-init : goal.loop-v-init
loop-v-init c = λ w. rw c.new-found.ensures (below-none (λ u. nat_lt (degree c.args.g.now u) 3) w)

pub loop-v-preserved : goal.loop-v-preserved
loop-v-preserved c =
    let g = c.args.g.now in
    let v = c.loop-v.v in
    let few : ℕ → Bool = λ u. nat_lt (degree g u) 3 in
    let as_many = length-hops g v c.hops.result.now c.nodes-v-end.ensures.graph c.hops.ensures in
    elim c.if-hops-lt-WIDE.branch [
      | then-hops-lt-WIDE+in_ok-insert w ↦ rw w.found-is
          (λ u. w.in_ok-insert.ensures.nodes u ∙ below-more (has c.loop-v.found) few v u (c.loop-v.invariant u) (lt-ltb (degree g v) 3 (omega (arith, w.if-hops-lt-WIDE.true, as_many))))
      | else-hops-lt-WIDE w ↦ rw w.found-is (λ u. below-less (has c.loop-v.found) few v u (c.loop-v.invariant u) (le-ltb (degree g v) 3 (omega (arith, w.if-hops-lt-WIDE.false, as_many))))
    ]
